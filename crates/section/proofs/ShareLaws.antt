-- A processor's share of an accepted section has what document 01 says of the section, whichever the dealing.
use Prim.Native.Nat.{ℕ, suc, ◌-◌, ◌*◌, ◌≤◌, ◌<◌}
use mathlib.Core.Path.{◌≡◌, refl, sym, ap, ◌∙◌, subst}
use mathlib.Core.Bool.{Bool, true, false, cond}
use mathlib.Core.List.{List}
use native.Mathlib.Decide.{dec_lt}
use native.Mathlib.Omega.{arith}
use lib.Dec.{ltb}
use lib.IntN.{ℤ}
use Rattle.numbers.specs.Search.{tally, passing, head_or, sum}
use Rattle.numbers.proofs.SearchLaws.{tally-same}
use Rattle.numbers.proofs.MultipleLaws.{multiples-le, below-multiples, multiples-below}
use Rattle.model.specs.Mappings.{Dealing, cyclic, gen_block, Section}
use Rattle.model.specs.Ownership.{run_start, run_owner, run_sizes, owner, owns, rank, held}
use Rattle.model.specs.Sections.{layout, count, index, address, owns_at, places, first_place}
use Rattle.model.specs.Steps.{spread, run_next, steps_dealt, steps_of, next_dealt, next_place}
use Rattle.model.specs.Questions.{first_no, of_section}
use Rattle.model.proofs.AcceptedLaws.{accepted, mapping-yes, runs-in}
use Rattle.model.proofs.SectionLaws.{index-lt}
use Rattle.model.proofs.AddressLaws.{of_owns}
use Rattle.model.proofs.Demand2Holds.{runs_fit}
use Rattle.model.proofs.RunOwners.{owner-run, run-owner, next_start}
use Rattle.model.proofs.Walking.{owner-cyclic, owns-cyclic, at-cell}
use Rattle.model.proofs.OneRun.{OneRun, run-all, run-rank, run-first, run-owned, run-next}
use Rattle.mapping.specs.declared.runs.Run.{Run}
use Rattle.mapping.specs.Parts.{part_in, index_from, owner_for}
use Rattle.mapping.proofs.PartLaws.{one-run}
use Rattle.section.specs.declared.questions.Strided.{Strided}
use Rattle.section.specs.declared.shares.Span.{Span}
use Rattle.section.specs.declared.shares.Extent.TheVariants as extent
use Rattle.section.specs.Strides.{strided_of, Bounded, index_at, cell_at}
use Rattle.section.specs.Shares.{positions_to, span_in, extent_in, owned_in, owned_of, place_from, next_from, address_from, held_from, steps_for}
use Rattle.section.specs.Shares.{share_of, owned_by, place_by, next_by, address_by, held_by, BasedIn, BasedBy}
use Rattle.section.proofs.StridedLaws.{cells-rise, cells-fall, cell-inside}
use Rattle.section.proofs.StridedSections.{bounded, index-at, cell-at, owned_at_lem, address-at, place-in, steps-in}
use Rattle.section.proofs.GoingLaws.{spread-pos, next-in}

-- ---- the positions before a cell

-- position t comes before cell c
abbrev Before : Bool → ℕ → ℕ → Type 0
Before true c z = z < c
Before false c z = c ≤ z

module _ (w : Strided) (b : Bounded w) where
  abbrev S : ℕ
  S = w.layout.stride * w.stride

  abbrev way : ℕ → ℕ
  way c = cond w.upward (c - cell_at w 0) (suc (cell_at w 0) - c)

  turned : {up : Bool} → w.upward ≡ up → (c : ℕ) → way c ≡ cond up (c - cell_at w 0) (suc (cell_at w 0) - c)
  turned e c = ap (λ (b : Bool). cond b (c - cell_at w 0) (suc (cell_at w 0) - c)) e

  positions-le : (c : ℕ) → positions_to w c ≤ w.count
  positions-le c = multiples-le S w.count (way c) (spread-pos w b)

  before : (c t : ℕ) → t < positions_to w c → Before w.upward c (cell_at w t)
  before c t h = go w.upward refl (below-multiples S w.count (way c) (spread-pos w b) t h)
    where
      go : (up : Bool) → w.upward ≡ up → (t < w.count) × (t * S < way c) → Before up c (cell_at w t)
      go true e r = omega (arith, r.1, turned e c, cells-rise w e t)
      go false e r = omega (arith, r.1, turned e c, cells-fall w b e t r.0)

  reached : (c t : ℕ) → t < w.count → Before w.upward c (cell_at w t) → t < positions_to w c
  reached c t h k = multiples-below S w.count (way c) (spread-pos w b) t h (go w.upward refl k)
    where
      go : (up : Bool) → w.upward ≡ up → Before up c (cell_at w t) → t * S < way c
      go true e r = omega (arith, turned e c, cells-rise w e t)
      go false e r = omega (arith, turned e c, cells-fall w b e t h)

  -- ---- the positions on the cells from one to another

  module _ (a z : ℕ) (rises : a ≤ z) where
    abbrev low : ℕ
    low = positions_to w (cond w.upward a z)

    abbrev high : ℕ
    high = positions_to w (cond w.upward z a)

    ends : (up : Bool) (y : ℕ) → (Before up (cond up a z) y → ⊥) → Before up (cond up z a) y → (a ≤ y) × (y < z)
    ends true y f h = (omega arith, h)
    ends false y f h = (h, omega arith)

    starts : (up : Bool) (y : ℕ) → a ≤ y → y < z → (Before up (cond up a z) y → ⊥) × Before up (cond up z a) y
    starts true y f h = ((λ k. omega arith), h)
    starts false y f h = ((λ k. omega arith), f)

    further : (up : Bool) (y : ℕ) → Before up (cond up a z) y → Before up (cond up z a) y
    further true y h = omega arith
    further false y h = omega arith

    pub high_le : high ≤ w.count
    high_le = positions-le (cond w.upward z a)

    pub on-cells : (t : ℕ) → low ≤ t → t < high → (a ≤ cell_at w t) × (cell_at w t < z)
    on-cells t l h =
        ends w.upward (cell_at w t)
        (λ k. omega (arith, reached (cond w.upward a z) t (omega (arith, high_le)) k))
        (before (cond w.upward z a) t h)

    pub cells-on : (t : ℕ) → t < w.count → a ≤ cell_at w t → cell_at w t < z → (low ≤ t) × (t < high)
    cells-on t n f g =
        let r = starts w.upward (cell_at w t) f g in
        (elim (dec_lt t low) [ yes k ↦ absurd (r.0 (before (cond w.upward a z) t k)) | no k ↦ omega arith ], reached (cond w.upward z a) t n r.1)

    pub low-le : low ≤ high
    low-le = elim (dec_lt high low) [
      | yes k ↦
          let n : high < w.count = omega (arith, positions-le (cond w.upward a z)) in
          absurd (omega (arith, reached (cond w.upward z a) high n (further w.upward (cell_at w high) (before (cond w.upward a z) high k))))
      | no k ↦ omega arith
    ]

-- ---- a run

module _ (x : Section) (ok : first_no (of_section x) ≡ 0) {sizes : List ℤ} {left : ℕ} (d : x.mapping.dealing ≡ gen_block sizes left) (q : ℕ) where
  abbrev w : Strided
  w = strided_of x

  abbrev runs : List ℕ
  runs = run_sizes sizes

  abbrev run : Run
  run = record { start = record { 0 = run_start runs q }; end = record { 0 = run_start runs (suc q) } }

  -- the owner at each position
  abbrev at : ℕ → ℕ
  at t = owner x.mapping (index x t)

  at-is : (t : ℕ) → t < count x → at t ≡ run_owner runs (cell_at w t)
  at-is t h = at-cell x ok d t ∙ ap (run_owner runs) (cell-at x ok t h)

  covers : (layout x).cells ≤ sum runs
  unfolding layout
  covers = (runs_fit x.mapping sizes left (runs-in x.mapping (mapping-yes x ok) d)).1

  cell_in : (t : ℕ) → t < count x → cell_at w t < sum runs
  unfolding strided_of
  cell_in t h = omega (arith, cell-inside w (bounded x ok) t h, covers)

  -- the positions whose elements the processor owns
  pub one_span : OneRun at (count x) q (span_in w run).low.0 (span_in w run).high.0
  unfolding strided_of
  one_span =
      let rises : run_start runs q ≤ run_start runs (suc q) = omega (arith, next_start runs q) in
      let b = bounded x ok in
      record {
        ordered = low-le w b (run_start runs q) (run_start runs (suc q)) rises;
        inside = high_le w b (run_start runs q) (run_start runs (suc q)) rises;
        mine = λ t l h.
            let n : t < count x = omega (arith, high_le w b (run_start runs q) (run_start runs (suc q)) rises) in
            let c = on-cells w b (run_start runs q) (run_start runs (suc q)) rises t l h in
            at-is t n ∙ run-owner runs (cell_at w t) q c.0 (omega (arith, c.1, next_start runs q));
        only = λ t n e.
            let r = owner-run runs (cell_at w t) (cell_in t n) in
            let o : run_owner runs (cell_at w t) ≡ q = sym (at-is t n) ∙ e in
            cells-on w b (run_start runs q) (run_start runs (suc q)) rises t n (rw o at r.from) (rw (next_start runs q) (rw o at r.below));
      }

  -- ---- what the share has

  span-owned : (t : ℕ) → t < count x → owns_at x q t ≡ owned_in (span_in w run) t
  unfolding owns_at owns
  span-owned = run-owned one_span

  span-first : first_place x q ≡ cond (ltb (span_in w run).low.0 (span_in w run).high.0) (span_in w run).low.0 (count x)
  unfolding first_place places owns_at owns
  span-first = run-first one_span

  span-all : tally (owns_at x q) (count x) ≡ (span_in w run).high.0 - (span_in w run).low.0
  unfolding owns_at owns held
  span-all = run-all one_span

  span-next : (t : ℕ) → t < count x → owns_at x q t ≡ true
      → run_next at (count x) t ≡ cond (ltb (suc t) (span_in w run).high.0) (suc t) (count x)
  unfolding owns_at
  span-next t h e = run-next one_span t h (of_owns (owner x.mapping) q (index x t) e)

  -- the processor's elements of the array
  based : (t : ℕ) → t < count x → owns_at x q t ≡ true
      → ((span_in w run).base.0 ≤ index_at w t) × (address x t ≡ index_at w t - (span_in w run).base.0)
  unfolding address owns_at owner layout strided_of
  based t h e =
      let l = layout x in
      let o = of_owns (owner x.mapping) q (index x t) e in
      let r = one-run l (accepted x ok).sized sizes left covers q in
      let i = index-at x ok t h in
      let same : owner x.mapping ≡ owner_for l (gen_block sizes left) = ap (λ (z : Dealing). owner_for l z) d in
      let here : owner_for l (gen_block sizes left) (index x t) ≡ q = sym (λ j. same j (index x t)) ∙ o in (
        omega (arith, i, (r.only (index x t) (index-lt x ok t h) here).0),
        (λ j. rank (same j) (index x t)) ∙ run-rank r (index x t) (index-lt x ok t h) here ∙ ap (λ (n : ℕ). n - index_from l (run_start runs q)) i,
      )

-- ---- either extent

module _ (x : Section) (ok : first_no (of_section x) ≡ 0) (q : ℕ) where
  abbrev v : Strided
  v = strided_of x

  pub owned-by : (t : ℕ) → t < count x → owns_at x q t ≡ owned_by (share_of x q) t
  owned-by t h = go x.mapping.dealing refl
    where
      go : (z : Dealing) → x.mapping.dealing ≡ z → owns_at x q t ≡ owned_of v q (extent_in v (part_in z q)) t
      go (cyclic k) d = (λ i. owns-cyclic x d q i t) ∙ owned_at_lem x ok q t h
      go (gen_block sizes left) d = span-owned x ok d q t h

  pub place-by : first_place x q ≡ place_by (share_of x q)
  unfolding first_place places strided_of
  place-by = go x.mapping.dealing refl
    where
      go : (z : Dealing) → x.mapping.dealing ≡ z → first_place x q ≡ place_from v q (extent_in v (part_in z q))
      go (cyclic k) d = ap (λ (f : ℕ → Bool). head_or (count x) (passing f 0 (count x))) (owns-cyclic x d q) ∙ place-in x ok q
      go (gen_block sizes left) d = span-first x ok d q

  pub held_by_lem : tally (owns_at x q) (count x) ≡ held_by (share_of x q)
  unfolding strided_of
  held_by_lem = go x.mapping.dealing refl
    where
      go : (z : Dealing) → x.mapping.dealing ≡ z → tally (owns_at x q) (count x) ≡ held_from v q (extent_in v (part_in z q))
      go (cyclic k) d = tally-same (owns_at x q) _ (count x) (λ t h. (λ i. owns-cyclic x d q i t) ∙ owned_at_lem x ok q t h)
      go (gen_block sizes left) d = span-all x ok d q

  module _ (t : ℕ) (h : t < count x) (mine : owns_at x q t ≡ true) where
    pub next-by : next_place x t ≡ next_by (share_of x q) t
    unfolding next_place strided_of
    next-by = go x.mapping.dealing refl
      where
        go : (z : Dealing) → x.mapping.dealing ≡ z → next_dealt z x t ≡ next_from v (extent_in v (part_in z q)) t
        go (cyclic k) d = next-in x ok t h
        go (gen_block sizes left) d = span-next x ok d q t h mine

    pub address-by : address x t ≡ address_by (share_of x q) t
    unfolding address strided_of layout
    address-by = go x.mapping.dealing refl
      where
        go : (z : Dealing) → x.mapping.dealing ≡ z → address x t ≡ address_from v (extent_in v (part_in z q)) t
        go (cyclic k) d = (λ i. rank (owner-cyclic x.mapping d i) (index x t)) ∙ address-at x ok t h
        go (gen_block sizes left) d = (based x ok d q t h mine).1

    pub based-by : BasedBy (share_of x q) t
    based-by = go x.mapping.dealing refl
      where
        go : (z : Dealing) → x.mapping.dealing ≡ z → BasedIn v (extent_in v (part_in z q)) t
        go (cyclic k) d = tt
        go (gen_block sizes left) d = (based x ok d q t h mine).0

pub steps-for : (x : Section) → steps_of x ≡ steps_for (strided_of x) x.mapping.dealing
unfolding steps_of strided_of spread
steps-for x = go x.mapping.dealing
  where
    go : (z : Dealing) → steps_dealt z x ≡ steps_for (strided_of x) z
    go (cyclic k) = steps-in x
    go (gen_block sizes left) = refl

-- ---- the dealing, from the extent

pub record RunDealt (x : Section) (r : Span) : Type 0 where
  pub sizes : List ℤ
  pub left : ℕ
  pub dealt : x.mapping.dealing ≡ gen_block sizes left
  pub inside : r.high.0 ≤ count x

pub run-dealt : (x : Section) → first_no (of_section x) ≡ 0 → (q : ℕ) (r : Span) → extent_in (strided_of x) (part_in x.mapping.dealing q) ≡ extent.Run r → RunDealt x r
run-dealt x ok q r e = go x.mapping.dealing refl e
  where
    go : (z : Dealing) → x.mapping.dealing ≡ z → extent_in (strided_of x) (part_in z q) ≡ extent.Run r → RunDealt x r
    go (cyclic k) d f = absurd (let n : ◌≡◌ {A = ℕ} 0 1 = cc in omega arith)
    go (gen_block sizes left) d f =
        let same : span_in (strided_of x) (run x ok d q) ≡ r = cc in
        record { sizes = sizes; left = left; dealt = d; inside = subst (λ (s : Span). s.high.0 ≤ count x) same (one_span x ok d q).inside }

pub blocks-dealt : (x : Section) (q : ℕ) → extent_in (strided_of x) (part_in x.mapping.dealing q) ≡ extent.Blocks
    → (k : ℤ) × (x.mapping.dealing ≡ cyclic k)
blocks-dealt x q e = go x.mapping.dealing refl e
  where
    go : (z : Dealing) → x.mapping.dealing ≡ z → extent_in (strided_of x) (part_in z q) ≡ extent.Blocks → (k : ℤ) × (x.mapping.dealing ≡ cyclic k)
    go (cyclic k) d f = (k, d)
    go (gen_block sizes left) d f = absurd (let n : ◌≡◌ {A = ℕ} 0 1 = cc in omega arith)
