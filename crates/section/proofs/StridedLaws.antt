-- An accepted section on natural numbers alone: its course, and the indices and cells of its positions.
use Prim.Native.Nat.{ℕ, ◌+◌, ◌-◌, ◌*◌, ◌≤◌, ◌<◌}
use mathlib.Core.Path.{◌≡◌, refl, ap, ◌∙◌}
use mathlib.Core.Bool.{Bool, true, false}
use native.Mathlib.Nat.{mul-le-mul_left, mul-le-mul_right}
use native.Mathlib.Omega.{arith}
use Rattle.model.specs.declared.Layout.{Layout}
use Rattle.model.specs.Sized.{Sized}
use Rattle.model.specs.Ownership.{cell_of, course_cells}
use Rattle.model.proofs.SizedLaws as sized
use Rattle.section.specs.declared.questions.Strided.{Strided}
use Rattle.section.specs.Strides.{Bounded, moved, index_at, cell_at}

module _ (l : Layout) (z : Sized l) where
  pub course-some : 0 < course_cells l
  unfolding course_cells
  course-some = sized.course-pos l z

  pub course-high : course_cells l ≤ 67108864
  unfolding course_cells
  course-high = sized.course-high l z

  -- processor q's columns lie in a course
  pub block_inside : (q : ℕ) → q < l.processors → q * l.block + l.block ≤ course_cells l
  unfolding course_cells
  block_inside q own = omega (arith, mul-le-mul_right l.block own)

module _ (w : Strided) where
  -- S = a·|s|
  abbrev S : ℕ
  S = w.layout.stride * w.stride

  -- the indices and the cells, going up
  pub indices-rise : w.upward ≡ true → (t : ℕ) → index_at w t ≡ w.first.0 + t * w.stride
  unfolding index_at
  indices-rise up t = rw up

  pub cells-rise : w.upward ≡ true → (t : ℕ) → cell_at w t ≡ cell_at w 0 + t * S
  unfolding cell_at index_at cell_of
  cells-rise up t = rw up (omega arith)

  pub first-index : index_at w 0 ≡ w.first.0
  unfolding index_at
  first-index = go w.upward
    where
      go : (b : Bool) → moved b w.first.0 (0 * w.stride) ≡ w.first.0
      go true = omega arith
      go false = omega arith

  pub first_cell : cell_at w 0 ≡ cell_of w.layout w.first.0
  unfolding cell_at
  first_cell = ap (cell_of w.layout) first-index

  module _ (b : Bounded w) where
    -- going down
    below-first : w.upward ≡ false → (t : ℕ) → t < w.count → t * w.stride ≤ w.first.0
    below-first down t h =
        let far : t * w.stride ≤ (w.count - 1) * w.stride = mul-le-mul_right w.stride (omega arith) in
        omega (arith, b.falls down (omega arith))

    pub indices-fall : w.upward ≡ false → (t : ℕ) → t < w.count → w.first.0 ≡ index_at w t + t * w.stride
    unfolding index_at
    indices-fall down t h = rw down (omega (arith, below-first down t h))

    pub cells-fall : w.upward ≡ false → (t : ℕ) → t < w.count → cell_at w 0 ≡ cell_at w t + t * S
    unfolding cell_at cell_of
    cells-fall down t h =
        let far : index_at w 0 ≡ index_at w t + t * w.stride = first-index ∙ indices-fall down t h in
        omega (arith, ap (λ (i : ℕ). w.layout.stride * i) far)

    -- every position holds an element of the array, on a cell of the template
    pub index-inside : (t : ℕ) → t < w.count → index_at w t < w.layout.size
    index-inside t h = go w.upward refl
      where
        go : (u : Bool) → w.upward ≡ u → index_at w t < w.layout.size
        go true e =
            let far : t * w.stride ≤ (w.count - 1) * w.stride = mul-le-mul_right w.stride (omega arith) in
            omega (arith, indices-rise e t, b.rises e (omega arith))
        go false e = omega (arith, indices-fall e t h, b.first-inside (omega arith))

    pub cell-inside : (t : ℕ) → t < w.count → cell_at w t < w.layout.cells
    unfolding cell_at cell_of
    cell-inside t h =
        let i : index_at w t ≤ w.layout.size - 1 = omega (arith, index-inside t h) in
        omega (arith, mul-le-mul_left w.layout.stride i, b.sized.inside (omega (arith, index-inside t h)))
