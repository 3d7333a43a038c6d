-- Counting a processor's cells, and with stride 1 its elements, directly. Assumes nothing.
use Prim.Native.Nat.{ℕ, zero, suc, ◌+◌, ◌-◌, ◌*◌, ◌/◌, ◌%◌, ◌^◌, ◌≤◌, ◌<◌}
use mathlib.Core.Path.{◌≡◌, refl, sym, ap, ◌∙◌}
use native.Mathlib.Nat.{le_of_lt, div-add-mod', mod-lt, mul-le-mul_right, div-lt_iff_lt-mul}
use native.Mathlib.Decide.{dec_lt}
use native.Mathlib.Omega.{arith}
use Rattle.numbers.proofs.Division.{div_is, rest-is}
use Rattle.model.specs.declared.Layout.{Layout}
use Rattle.model.specs.Ownership.{held, rank, back_to, cell_of, cell_owner, course_of, column_of, owner_of}
use Rattle.model.specs.Sized.{Sized}
use Rattle.model.proofs.AddressLaws.{rank_is}
use Rattle.model.proofs.DirectAddresses.{own-cells}
use Rattle.mapping.specs.Bounds.{Dealt, Stored}
use Rattle.mapping.specs.Counts.{overlap}
use Rattle.model.proofs.HeldLaws.{held_none, held_next, held-mono, held_more, held_same, held-le, held-lt, back_is}
use Rattle.model.proofs.SizedLaws.{course-pos, cell-high}
use Rattle.model.proofs.CellOwners.{cell-owner-lt}

-- how many cells below c processor q has
abbrev pub cells : Layout → ℕ → ℕ → ℕ
cells l q c = held (cell_owner l) c q

-- the cell of q that has y of q's cells below it
abbrev pub cell_at : Layout → ℕ → ℕ → ℕ
cell_at l q y = y / l.block * (l.processors * l.block) + q * l.block + y % l.block

module _ (l : Layout) (q : ℕ) (d : Dealt l q) where
  abbrev k : ℕ
  k = l.block

  abbrev course : ℕ
  course = l.processors * l.block

  block-ends : q * k + k ≤ course
  block-ends = omega (arith, mul-le-mul_right k d.processor)

  -- block v of a course is processor v's
  owner-is : (c u v r : ℕ) → c ≡ course * u + v * k + r → r < k → v < l.processors → cell_owner l c ≡ v
  unfolding cell_owner
  owner-is c u v r e h below =
      ap (λ (b : ℕ). b % l.processors) (div_is k (l.processors * u + v) r c (omega arith) h)
      ∙ rest-is l.processors u v (l.processors * u + v) refl below

  -- cell r of course u, whose block is v
  counts : (c u v r : ℕ) → c ≡ course * u + r → v * k ≤ r → r < v * k + k → v < l.processors → cells l q c ≡ u * k + overlap (q * k) k r
      → cells l q (suc c) ≡ u * k + overlap (q * k) k (suc r)
  counts c u v r e low high below ih =
      let o = owner-is c u v (r - v * k) (omega arith) (omega arith) below in
      elim (dec_lt v q) [
        | yes h ↦ omega (arith, held_same (cell_owner l) q c (omega arith), mul-le-mul_right k h)
        | no f ↦ elim (dec_lt q v) [
          | yes h ↦ omega (arith, held_same (cell_owner l) q c (omega arith), mul-le-mul_right k h)
          | no g ↦ let s : v ≡ q = omega arith in
              omega (arith, held_more (cell_owner l) q c (o ∙ s), ap (λ (b : ℕ). b * k) s)
        ]
      ]

  next : (c u r : ℕ) → c ≡ course * u + r → r < course → cells l q c ≡ u * k + overlap (q * k) k r → cells l q (suc c) ≡ u * k + overlap (q * k) k (suc r)
  next c u r e h ih =
      counts c u (r / k) r e (omega (arith, div-add-mod' r k)) (omega (arith, div-add-mod' r k, mod-lt r d.sized.block-pos)) ((div-lt_iff_lt-mul d.sized.block-pos).1 h) ih

  last-cell : (c u r : ℕ) → suc r ≡ course → cells l q (suc c) ≡ u * k + overlap (q * k) k (suc r) → cells l q (suc c) ≡ suc u * k + overlap (q * k) k 0
  last-cell c u r e h = omega (arith, block-ends)

  cells_in : (c u r : ℕ) → c ≡ course * u + r → r < course → cells l q c ≡ u * k + overlap (q * k) k r
  cells_in zero zero r e h = omega (arith, held_none (cell_owner l) q)
  cells_in zero (suc u) r e h = absurd (omega (arith, course-pos l d.sized))
  cells_in (suc c) u (suc r) e h = next c u r (omega arith) (omega arith) (cells_in c u r (omega arith) (omega arith))
  cells_in (suc c) zero zero e h = absurd (omega arith)
  -- the first cell of a course follows the last of the course before
  cells_in (suc c) (suc u) zero e h =
      last-cell c u (course - 1) (omega arith) (next c u (course - 1) (omega arith) (omega arith) (cells_in c u (course - 1) (omega arith) (omega arith)))

  -- a block for each whole course, and the share of the course that is cut
  pub cells-below : (c : ℕ) → cells l q c ≡ c / course * k + overlap (q * k) k (c % course)
  cells-below c =
      cells_in c (c / course) (c % course) (omega (arith, div-add-mod' c course)) (mod-lt c (course-pos l d.sized))

  pub cells-le : (c : ℕ) → c / course * k + overlap (q * k) k (c % course) ≤ c
  cells-le c = omega (arith, cells-below c, held-le (cell_owner l) q c)

  -- ---- the cell that y leads to
  owner_at : (y : ℕ) → cell_owner l (cell_at l q y) ≡ q
  owner_at y = owner-is (cell_at l q y) (y / k) q (y % k) (omega arith) (mod-lt y d.sized.block-pos) d.processor

  cells_at : (y : ℕ) → cells l q (cell_at l q y) ≡ y
  cells_at y =
      omega (arith, cells_in (cell_at l q y) (y / k) (q * k + y % k) (omega arith) (omega (arith, mod-lt y d.sized.block-pos, block-ends)), mod-lt y d.sized.block-pos, div-add-mod' y k)

  -- ---- stride 1
  module _ (one : l.stride ≡ 1) where
    cell-is : (i : ℕ) → cell_of l i ≡ i + l.offset
    unfolding cell_of
    cell-is i = omega (arith, ap (λ (a : ℕ). a * i) one)

    -- the elements below i sit on the cells from the offset on
    pub held-direct : (i : ℕ) → held (owner_of l) i q + cells l q l.offset ≡ cells l q (cell_of l i)
    unfolding owner_of
    held-direct zero =
        let e : cell_of l 0 ≡ l.offset = omega (arith, cell-is 0) in
        omega (arith, held_none (owner_of l) q, ap (cells l q) e)
    held-direct (suc i) =
        let e : cell_of l (suc i) ≡ suc (cell_of l i) = omega (arith, cell-is i, cell-is (suc i)) in
        omega (arith, held-direct i, held_next (owner_of l) q i, held_next (cell_owner l) q (cell_of l i), ap (cells l q) e)

-- document 004, section 2, with an offset: k times the course and the column, less the cells of the processor below the offset
pub rank-direct : (l : Layout) → Sized l → l.stride ≡ 1 → (i : ℕ)
    → rank (owner_of l) i + cells l (owner_of l i) l.offset ≡ l.block * course_of l (cell_of l i) + column_of l (cell_of l i)
unfolding owner_of
rank-direct l s one i =
    let d : Dealt l (owner_of l i) = record { sized = s; processor = cell-owner-lt l s.processors-pos (cell_of l i) } in
    omega (arith, rank_is (owner_of l) (owner_of l i) i refl, held-direct l (owner_of l i) d one i, rank_is (cell_owner l) (owner_of l i) (cell_of l i) refl, own-cells l s.processors-pos s.block-pos (cell_of l i))

-- ---- going back with stride 1

-- address x leads to the cell of q that has y of q's cells below it
pub record Led (l : Layout) (q x y : ℕ) : Type 0 where
  pub from : l.offset ≤ cell_at l q y
  pub high : cell_at l q y < 2 ^ 44
  pub element : cell_at l q y - l.offset ≡ back_to (owner_of l) l.size q x

module _ (l : Layout) (q x y : ℕ) (s : Stored l q x) (one : l.stride ≡ 1) (e : y ≡ x + cells l q l.offset) where
  offset-le : l.offset ≤ cell_at l q y
  offset-le = elim (dec_lt (cell_at l q y) l.offset) [
    | yes h ↦ absurd (omega (arith, held-mono (cell_owner l) q (suc (cell_at l q y)) l.offset h, held_more (cell_owner l) q (cell_at l q y) (owner_at l q s.dealt y), cells_at l q s.dealt y))
    | no f ↦ omega arith
  ]

  abbrev index : ℕ
  index = cell_at l q y - l.offset

  cell-of-index : cell_of l index ≡ cell_at l q y
  cell-of-index = cell-is l q s.dealt one index ∙ omega (arith, offset-le)

  held-index : held (owner_of l) index q ≡ x
  held-index =
      omega (arith, held-direct l q s.dealt one index, ap (cells l q) cell-of-index, cells_at l q s.dealt y)

  index-lt : index < l.size
  index-lt = held-lt (owner_of l) q index l.size (omega (arith, held-index, s.address))

  back-direct : back_to (owner_of l) l.size q x ≡ index
  unfolding owner_of
  back-direct =
      back_is (owner_of l) q l.size x index s.address (ap (cell_owner l) cell-of-index ∙ owner_at l q s.dealt y) held-index

-- y counts the cells of q below the offset, and x more
pub led : {l : Layout} {q x : ℕ} (below : ℕ) → Stored l q x → l.stride ≡ 1 → below ≡ cells l q l.offset → Led l q x (x + below)
led {l} {q} {x} below s one e =
    let f : x + below ≡ x + cells l q l.offset = omega arith in
    record {
      from = offset-le l q x (x + below) s one f;
      high = omega (arith, cell-of-index l q x (x + below) s one f, cell-high l s.dealt.sized _ (le_of_lt (index-lt l q x (x + below) s one f)));
      element = sym (back-direct l q x (x + below) s one f);
    }
