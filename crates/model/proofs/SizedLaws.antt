-- How large the blocks, courses and cells of an accepted layout are. Assumes nothing.
use Prim.Native.Nat.{ℕ, zero, suc, ◌+◌, ◌-◌, ◌*◌, ◌^◌, ◌≤◌, ◌<◌}
use mathlib.Core.Path.{◌≡◌, ap}
use native.Mathlib.Nat.{le_refl, mul-pos, mul-le-mul_left}
use native.Mathlib.Omega.{arith}
use Rattle.numbers.proofs.Division.{product_le}
use Rattle.model.specs.declared.Layout.{Layout}
use Rattle.model.specs.Ownership.{cell_of}
use Rattle.model.specs.Sized.{Sized}

module _ (l : Layout) (s : Sized l) where
  -- d blocks, up to all of a course
  pub blocks-le : (d : ℕ) → d ≤ l.processors → d * l.block ≤ 2 ^ 26
  blocks-le d h =
      let blocks : d ≤ 1024 = omega (arith, s.processors-high) in
      omega (arith, product_le 1024 65536 blocks s.block-high)

  pub course-high : l.processors * l.block ≤ 2 ^ 26
  course-high = blocks-le l.processors (le_refl l.processors)

  pub course-pos : 0 < l.processors * l.block
  course-pos = mul-pos s.processors-pos s.block-pos

  -- cells of elements and the one after them
  pub cell-high : (i : ℕ) → i ≤ l.size → cell_of l i < 2 ^ 44
  unfolding cell_of
  cell-high i h = go l.size h s.inside
    where
      go : (n : ℕ) → i ≤ n → (1 ≤ n → l.stride * (n - 1) + l.offset < l.cells) → l.stride * i + l.offset < 2 ^ 44
      go zero h f = let none : i ≡ 0 = omega arith in rw none (omega (arith, s.offset-high))
      go (suc n) h f =
          let e : suc n - 1 ≡ n = omega arith in
          omega (arith, f (omega arith), s.cells-high, s.stride-high, ap (λ (x : ℕ). l.stride * x) e, mul-le-mul_left l.stride h)
