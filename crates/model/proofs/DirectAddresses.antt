-- The cells of a processor below one of its own: a block for each course before, and the columns before. So is the address of an
-- element where every cell has one. Assumes nothing.
use Prim.Native.Nat.{ℕ, zero, suc, ◌+◌, ◌-◌, ◌*◌, ◌/◌, ◌%◌, ◌≤◌, ◌<◌}
use mathlib.Core.Path.{◌≡◌, refl, sym, ap, ◌∙◌}
use native.Mathlib.Nat.{mod-eq_of_lt, mod-lt, div-add-mod', mul-le-mul_right}
use native.Mathlib.Omega.{arith}
use lib.Dec.{eqb}
use lib.IntN.{ℤ, pos}
use Rattle.numbers.proofs.Division.{div_is}
use Rattle.numbers.proofs.TallyLaws.{tally-period}
use Rattle.model.specs.declared.Layout.{Layout}
use Rattle.model.specs.Mappings.{Dealing, cyclic, Mapping}
use Rattle.model.specs.Ownership.{nat, cell_under, block_in, layout_of, owns, rank, held, cell_of, cell_owner, course_cells, course_of, column_of, owner_of, owner}
use Rattle.model.specs.Questions.{Passes}
use Rattle.model.proofs.AddressLaws.{rank_is}
use Rattle.model.proofs.AcceptedLaws.{mapped}
use Rattle.model.proofs.CellOwners.{cell-owner-lt, course-pos, column-lt, split}
use Rattle.model.proofs.PeriodLaws.{owner-again}
use Rattle.model.proofs.Walking.{owner-cyclic}
use Rattle.model.proofs.OneRun.{OneRun, run-held, run-all}

module _ (l : Layout) (p-pos : 0 < l.processors) (k-pos : 0 < l.block) where
  abbrev k : ℕ
  k = l.block

  abbrev M : ℕ
  M = course_cells l

  -- of the first course processor q has one block
  module _ (q : ℕ) (below : q < l.processors) where
    block-mine : (c : ℕ) → q * k ≤ c → c < q * k + k → cell_owner l c ≡ q
    unfolding cell_owner
    block-mine c low high =
        ap (λ (b : ℕ). b % l.processors) (div_is k q (c - q * k) c (omega arith) (omega arith)) ∙ mod-eq_of_lt below

    block-only : (c : ℕ) → c < M → cell_owner l c ≡ q → (q * k ≤ c) × (c < q * k + k)
    block-only c h o =
        let e : c ≡ q * k + column_of l c = sym (mod-eq_of_lt h) ∙ split l p-pos k-pos c ∙ ap (λ (b : ℕ). b * k + column_of l c) o in
        (omega (arith, e), omega (arith, e, column-lt l p-pos k-pos c))

    block-ends : q * k + k ≤ M
    unfolding course_cells
    block-ends = omega (arith, mul-le-mul_right k below)

    one_block : OneRun (cell_owner l) M q (q * k) (q * k + k)
    one_block = record { ordered = omega arith; inside = block-ends; mine = block-mine; only = block-only }

    -- and so of every course
    owns-again : (c : ℕ) → owns (cell_owner l) q (M + c) ≡ owns (cell_owner l) q c
    unfolding owns
    owns-again c =
        let e : M + c ≡ c + 1 * M = omega arith in
        ap (λ (z : ℕ). eqb (cell_owner l z) q) e ∙ ap (λ (z : ℕ). eqb z q) (owner-again l p-pos k-pos 1 c)

    course-more : (c : ℕ) → held (cell_owner l) (c + M) q ≡ held (cell_owner l) c q + k
    unfolding held
    course-more c = tally-period (owns (cell_owner l) q) c M owns-again ∙ omega (arith, run-all one_block)

    courses-more : (u r : ℕ) → held (cell_owner l) (u * M + r) q ≡ u * k + held (cell_owner l) r q
    courses-more zero r =
        let e : 0 * M + r ≡ r = omega arith in ap (λ (c : ℕ). held (cell_owner l) c q) e ∙ omega arith
    courses-more (suc u) r =
        let e : suc u * M + r ≡ u * M + r + M = omega arith in
        ap (λ (c : ℕ). held (cell_owner l) c q) e ∙ omega (arith, course-more (u * M + r), courses-more u r)

  pub own-cells : (c : ℕ) → rank (cell_owner l) c ≡ k * course_of l c + column_of l c
  unfolding course_of
  own-cells c =
      let q : ℕ = cell_owner l c in
      let low : q < l.processors = cell-owner-lt l p-pos c in
      let e : c ≡ c / M * M + c % M = omega (arith, div-add-mod' c M) in
      let r : held (cell_owner l) (c % M) q ≡ column_of l c =
      omega (arith, run-held (one_block q low) (c % M) (omega (arith, mod-lt c (course-pos l p-pos k-pos))), split l p-pos k-pos c, column-lt l p-pos k-pos c) in
      rank_is (cell_owner l) q c refl ∙ ap (λ (z : ℕ). held (cell_owner l) z q) e ∙ omega (arith, courses-more q low (c / M) (c % M), r)

-- element i on cell i
on-cells : (l : Layout) → l.stride ≡ 1 → l.offset ≡ 0 → owner_of l ≡ cell_owner l
unfolding owner_of cell_of
on-cells l one none =
    let e : (i : ℕ) → l.stride * i + l.offset ≡ i = λ i. omega (arith, ap (λ (a : ℕ). a * i) one) in
    λ j. λ i. cell_owner l (e i j)

pub direct-address : (m : Mapping) → Passes m → (b : ℤ) → m.dealing ≡ cyclic b → m.stride ≡ pos 1 → cell_under m m.lower ≡ pos 0
    → (i : ℕ) → rank (owner m) i ≡ nat b * (i / (nat m.processors * nat b)) + i % nat b
unfolding layout_of course_of column_of course_cells nat
direct-address m ok b d one none i =
    let l : Layout = layout_of m in
    let z = mapped m ok in
    let e : l.block ≡ nat b = ap (λ (y : Dealing). nat (block_in y)) d in
    ap (λ (o : ℕ → ℕ). rank o i) (owner-cyclic m d ∙ on-cells l (ap nat one) (ap nat none))
    ∙ own-cells l z.processors-pos z.block-pos i
    ∙ ap (λ (k : ℕ). k * (i / (nat m.processors * k)) + i % k) e
