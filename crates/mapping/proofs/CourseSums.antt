-- A processor's elements below an index are the difference of two sums of courses, and the sums fit. Assumes nothing.
use Prim.Native.Nat.{ℕ, zero, suc, ◌+◌, ◌-◌, ◌*◌, ◌/◌, ◌%◌, ◌^◌, ◌≤◌, ◌<◌}
use mathlib.Core.Path.{◌≡◌, sym, ap, ◌∙◌}
use native.Mathlib.Nat.{div-add-mod', mod-lt, div-div-eq-div-mul, add-mul-div_right, mul_comm, mul-le-mul, mul-le-mul_left}
use native.Mathlib.Decide.{dec_lt}
use native.Mathlib.Omega.{arith}
use Rattle.numbers.specs.FloorSum.{SumFits}
use Rattle.numbers.proofs.Division.{div_is}
use Rattle.numbers.proofs.SumLaws.{sum-none, sum-last}
use Rattle.model.specs.declared.Layout.{Layout}
use Rattle.model.specs.Ownership.{held, cell_of, cell_owner, owner_of}
use Rattle.model.proofs.HeldLaws.{one_if, one_of, none_of, held_none, held_next}
use Rattle.model.proofs.SizedLaws.{blocks-le, course-pos}
use Rattle.mapping.specs.Bounds.{Dealt, Moved}
use Rattle.mapping.specs.Counts.{course_sum}

module _ (p q : ℕ) (own : q < p) where
  -- Block x, dealt to processor v after u rounds: its quotients by p, moved on by p - q and by one less, differ by 1 where v
  -- is q.
  turns : (x u v : ℕ) → x ≡ p * u + v → v < p → (x + (p - q)) / p ≡ one_if v q + (x + (p - q - 1)) / p
  turns x u v e l = elim (dec_lt v q) [
    | yes h ↦ omega (arith, none_of v q (omega arith), div_is p u (v + (p - q)) (x + (p - q)) (omega arith) (omega arith), div_is p u (v + (p - q - 1)) (x + (p - q - 1)) (omega arith) (omega arith))
    | no f ↦ elim (dec_lt q v) [
      | yes h ↦ omega (arith, none_of v q (omega arith), div_is p (suc u) (v - q) (x + (p - q)) (omega arith) (omega arith), div_is p (suc u) (v - q - 1) (x + (p - q - 1)) (omega arith) (omega arith))
      | no g ↦ omega (arith, one_of v q (omega arith), div_is p (suc u) (v - q) (x + (p - q)) (omega arith) (omega arith), div_is p u (v + (p - q - 1)) (x + (p - q - 1)) (omega arith) (omega arith))
    ]
  ]

  -- a cell moved on by d blocks: its quotient by the cells of a course is that of its block by p
  moved : (k c d : ℕ) → 0 < k → (c + d * k) / (p * k) ≡ (c / k + d) / p
  moved k c d pos =
      ap (λ (x : ℕ). (c + d * k) / x) (mul_comm p k)
      ∙ sym (div-div-eq-div-mul (c + d * k) k p)
      ∙ ap (λ (x : ℕ). x / p) (add-mul-div_right c d pos)

  cell-step : (k c : ℕ) → 0 < k → (c + (p - q) * k) / (p * k) ≡ one_if (c / k % p) q + (c + (p - q - 1) * k) / (p * k)
  cell-step k c pos =
      omega (arith, moved k c (p - q) pos, moved k c (p - q - 1) pos, turns (c / k) (c / k / p) (c / k % p) (omega (arith, div-add-mod' (c / k) p)) (mod-lt (c / k) (omega arith)))

module _ (l : Layout) where
  sum-start : (d : ℕ) → course_sum l 0 d ≡ 0
  sum-start d = sum-none (l.processors * l.block) l.stride (l.offset + d * l.block)

  sum-next : (i d : ℕ) → course_sum l (suc i) d ≡ course_sum l i d + (cell_of l i + d * l.block) / (l.processors * l.block)
  unfolding cell_of
  sum-next i d =
      sum-last i (l.processors * l.block) l.stride (l.offset + d * l.block)
      ∙ ap (λ (x : ℕ). course_sum l i d + x / (l.processors * l.block)) (omega arith)

  -- the elements of q below i are the difference of two sums
  pub held-sums : (q : ℕ) → Dealt l q → (i : ℕ) → held (owner_of l) i q + course_sum l i (l.processors - q - 1) ≡ course_sum l i (l.processors - q)
  unfolding owner_of cell_owner
  held-sums q d zero =
      omega (arith, held_none (owner_of l) q, sum-start (l.processors - q - 1), sum-start (l.processors - q))
  held-sums q d (suc i) =
      omega (arith, held-sums q d i, held_next (owner_of l) q i, sum-next i (l.processors - q), sum-next i (l.processors - q - 1), cell-step l.processors q d.processor l.block (cell_of l i) d.sized.block-pos)

-- the cells below that of i are in the template, and that of i is no more than a stride above them
total-low : (l : Layout) (i d : ℕ) → Moved l i d → suc i * (l.stride * i + (l.offset + d * l.block)) < 2 ^ 64
total-low l zero d m = omega (arith, blocks-le l m.sized d m.blocks, m.sized.offset-high)
total-low l (suc i) d m =
    let z = m.sized in
    let before : i ≤ l.size - 1 = omega (arith, m.index) in
    let inside = z.inside (omega (arith, m.index)) in
    let terms : suc (suc i) ≤ 2 ^ 31 = omega (arith, m.index, z.size-high) in
    let last : l.stride * i + (l.offset + d * l.block) ≤ 2 ^ 32 =
    omega (arith, inside, z.cells-high, mul-le-mul_left l.stride before, blocks-le l z d m.blocks) in
    omega (arith, mul-le-mul terms last, last, z.stride-high)

pub sum-bounds : (l : Layout) (i d : ℕ) → Moved l i d → SumFits i (l.processors * l.block) l.stride (l.offset + d * l.block)
sum-bounds l i d m = record {
  divisor = course-pos l m.sized;
  terms = omega (arith, m.index, m.sized.size-high);
  total = total-low l i d m;
}
