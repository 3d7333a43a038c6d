-- When two cells have the same owner: in terms of the column of one and the rest of their distance by a course.
use Prim.Native.Nat.{ℕ, ◌+◌, ◌-◌, ◌*◌, ◌/◌, ◌%◌, ◌≤◌, ◌<◌}
use mathlib.Core.Path.{◌≡◌, ap, ◌∙◌}
use mathlib.Core.Bool.{Bool, true, false}
use mathlib.Core.Logic.{inl, inr, ⊎_elim}
use native.Mathlib.Nat.{
  mod-lt,
  mod-eq_of_lt,
  div-add-mod',
  mul-add-div_right,
  mul-add-mod_self_right,
  div-lt_iff_lt-mul,
  mod-mod_of_dvd,
  dvd-mul_left,
  mul-le-mul_right,
  div-eq_of_lt-le,
  mul-pos,
}
use native.Mathlib.Omega.{arith}
use Rattle.model.specs.declared.Layout.{Layout}
use Rattle.model.specs.Ownership.{cell_of, cell_owner, course_cells, column_of, owner_of}
use Rattle.model.proofs.SectionLaws.{Moved}
use Rattle.model.proofs.Rests.{Sum, sum-mod, Fits}

-- a column, counted in walking direction
abbrev pub facing : Bool → ℕ → ℕ → ℕ
facing true k q = q
facing false k q = k - 1 - q

pub cell-owner-lt : (m : Layout) → 0 < m.processors → (c : ℕ) → cell_owner m c < m.processors
unfolding cell_owner
cell-owner-lt m h c = mod-lt (c / m.block) h

pub cyclic-owner-lt : (m : Layout) → 0 < m.processors → (i : ℕ) → owner_of m i < m.processors
unfolding owner_of
cyclic-owner-lt m h i = cell-owner-lt m h (cell_of m i)

module _ (m : Layout) (p-pos : 0 < m.processors) (k-pos : 0 < m.block) where
  pub course-pos : 0 < course_cells m
  unfolding course_cells
  course-pos = mul-pos p-pos k-pos

  pub block-le : m.block ≤ course_cells m
  unfolding course_cells
  block-le = omega (arith, mul-le-mul_right m.block p-pos)

  -- the owner is the block of the cell's rest by a course
  pub owner-rest : (c : ℕ) → cell_owner m c ≡ c % course_cells m / m.block
  unfolding cell_owner course_cells
  owner-rest c =
      let p = m.processors in
      let b = m.block in
      let e : c ≡ c / (p * b) * p * b + c % (p * b) = omega (arith, div-add-mod' c (p * b)) in
      let d : c / b ≡ c / (p * b) * p + c % (p * b) / b =
      ap (λ (n : ℕ). n / b) e ∙ mul-add-div_right k-pos (c / (p * b) * p) (c % (p * b)) in
      ap (λ (n : ℕ). n % p) d ∙ mul-add-mod_self_right (c / (p * b)) p (c % (p * b) / b)
      ∙ mod-eq_of_lt ((div-lt_iff_lt-mul k-pos).1 (mod-lt c course-pos))

  pub column-lt : (c : ℕ) → column_of m c < m.block
  unfolding column_of
  column-lt c = mod-lt c k-pos

  -- a cell's rest by a course, from its owner and its column
  pub split : (c : ℕ) → c % course_cells m ≡ cell_owner m c * m.block + column_of m c
  unfolding column_of course_cells
  split c =
      let y : c % course_cells m % m.block ≡ c % m.block = mod-mod_of_dvd m.block c (dvd-mul_left m.block m.processors) in
      omega (arith, div-add-mod' (c % course_cells m) m.block, ap (λ (n : ℕ). n * m.block) (owner-rest c))

  -- the other way round: an owner j and a column y
  place : (c j y : ℕ) → c % course_cells m ≡ j * m.block + y → y < m.block → cell_owner m c ≡ j
  place c j y e h = owner-rest c ∙ div-eq_of_lt-le m.block (omega arith) (omega arith)

  room : (c : ℕ) → cell_owner m c * m.block + m.block ≤ course_cells m
  unfolding course_cells
  room c = omega (arith, mul-le-mul_right m.block (cell-owner-lt m p-pos c))

  sum : (x n y : ℕ) → y ≡ x + n → Sum (course_cells m) (x % course_cells m) (n % course_cells m) (y % course_cells m)
  sum x n y p = rw p (sum-mod (course_cells m) x n course-pos)

  same_rest : (c z : ℕ) → cell_owner m z ≡ cell_owner m c → z % course_cells m + column_of m c ≡ c % course_cells m + column_of m z
  same_rest c z o = omega (arith, split c, split z, ap (λ (j : ℕ). j * m.block) o)

  -- n cells on, in walking direction, the owner is the same just where n's rest stays in the block
  pub owner-fits : (up : Bool) (c z n : ℕ) → Moved up c z n → cell_owner m z ≡ cell_owner m c
      → Fits (course_cells m) m.block (facing up m.block (column_of m c)) (n % course_cells m)
  owner-fits true c z n e o =
      ⊎_elim (λ s. inl (omega (arith, same_rest c z o, column-lt z))) (λ s. inr (omega (arith, same_rest c z o))) (sum c n z e)
  owner-fits false c z n e o =
      ⊎_elim (λ s. inl (omega (arith, same_rest c z o, column-lt c)))
      (λ s. inr (omega (arith, same_rest c z o, column-lt z, column-lt c)))
      (sum z n c e)

  pub fits-owner : (up : Bool) (c z n : ℕ) → Moved up c z n
      → Fits (course_cells m) m.block (facing up m.block (column_of m c)) (n % course_cells m) → cell_owner m z ≡ cell_owner m c
  fits-owner true c z n e (inl f) =
      ⊎_elim (λ s. place z (cell_owner m c) (column_of m c + n % course_cells m) (omega (arith, split c)) f)
      (λ s. absurd (omega (arith, split c, room c)))
      (sum c n z e)
  fits-owner true c z n e (inr f) =
      ⊎_elim (λ s. absurd (omega (arith, split c, mod-lt z course-pos)))
      (λ s. place z (cell_owner m c) (column_of m c + n % course_cells m - course_cells m) (omega (arith, split c))
      (omega (arith, column-lt c, mod-lt n course-pos)))
      (sum c n z e)
  fits-owner false c z n e (inl f) =
      ⊎_elim (λ s. place z (cell_owner m c) (column_of m c - n % course_cells m) (omega (arith, split c)) (omega (arith, column-lt c)))
      (λ s. absurd (omega (arith, split c, mod-lt z course-pos)))
      (sum z n c e)
  fits-owner false c z n e (inr f) =
      ⊎_elim (λ s. absurd (omega (arith, split c, room c, column-lt c)))
      (λ s. place z (cell_owner m c) (column_of m c + course_cells m - n % course_cells m) (omega (arith, split c, mod-lt n course-pos))
      (omega (arith, column-lt c)))
      (sum z n c e)
