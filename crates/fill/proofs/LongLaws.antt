-- A long fill in blocks: the walk that its plan goes along, and what its first period, its copies and a fill over them give.
use Prim.Native.Nat.{ℕ, ◌+◌, ◌-◌, ◌*◌, ◌/◌, ◌%◌, ◌^◌, ◌≤◌, ◌<◌}
use mathlib.Core.Path.{◌≡◌, sym, ap, ◌∙◌, subst}
use mathlib.Core.Bool.{true}
use mathlib.Core.List.{List, ◌++◌}
use native.Mathlib.Nat.{mod-lt}
use native.Mathlib.Omega.{arith}
use lib.ListN.{length, get_or, take, drop}
use Rattle.numbers.specs.Words.{words_of}
use Rattle.numbers.proofs.SearchLaws.{tally-le}
use Rattle.model.specs.Mappings.{Section}
use Rattle.model.specs.Ownership.{column_of, owner_of, owns, rank}
use Rattle.model.specs.Sections.{layout, count}
use Rattle.model.specs.Steps.{upward}
use Rattle.model.specs.Questions.{first_no, of_section}
use Rattle.model.specs.Filling.{fill_by}
use Rattle.model.proofs.ByteFillsHold.{rank-low}
use Rattle.model.proofs.ByteStores.{stores-length}
use Rattle.section.specs.declared.questions.Strided.{Strided}
use Rattle.section.specs.Strides.{Bounded, strided_of, index_at, owned_at}
use Rattle.section.proofs.StridedLaws.{index-inside}
use Rattle.section.proofs.StridedSections.{address-at, cell-at, owned_at_lem}
use Rattle.walk.specs.declared.moves.Report.{Report}
use Rattle.walk.specs.Moving.{Small}
use Rattle.walk.specs.Driving.{Paces, ByteFilled}
use Rattle.walk.specs.Learning.{Placed}
use Rattle.walk.proofs.PlaceLaws.{addresses_on}
use Rattle.walk.proofs.WholePeriods.{Level}
use Rattle.walk.proofs.LevelLaws.{drives-level, even-level}
use Rattle.walk.proofs.PartFills.{Part, front-part, over-part, part-ends}
use Rattle.walk.proofs.PeriodFills.{passed-fills, first_word, open-inside}
use Rattle.fill.specs.declared.ready.Start.{Start}
use Rattle.fill.specs.declared.plan.Plan.{Plan}
use Rattle.fill.specs.declared.plan.Plan.TheVariants.{Constant, Learnt}
use Rattle.fill.specs.declared.long.Period.{Period}
use Rattle.fill.specs.SectionMoves.{block_walk, cyclic_address, on_way, column_at, elements_of}
use Rattle.fill.specs.Starting.{InBlocks, PacesOf, PlannedFor, Planned, FillsBlocks, elements_in}
use Rattle.fill.specs.Long.{moves_in, column_in, Returned, state_after, Passed}
use Rattle.fill.proofs.ReadyLaws.{elements-placed}
use Rattle.fill.proofs.StartLaws.{way-low}

-- ---- the walk of a plan

pub record Paced (x : Section) (q : ℕ) (plan : Plan) : Type 0 where
  pub small : Small (moves_in plan)
  pub block : (moves_in plan).block ≡ (layout x).block
  pub paces : Paces (block_walk x) (moves_in plan)
  pub own : PacesOf x q (moves_in plan) paces
  pub level : Level (block_walk x) (moves_in plan) paces

paced : (x : Section) (q : ℕ) → Placed (elements_of x) (count x) → (plan : Plan) → PlannedFor x q plan → Paced x q plan
unfolding block_walk
paced x q placed (Constant m) f = record {
  small = f.0;
  block = f.1;
  paces = f.2.drives.paces;
  own = f.2.own;
  level = drives-level (block_walk x) m f.2.drives;
}
paced x q placed (Learnt m) f = record {
  small = f.0;
  block = f.1;
  paces = f.2.even.paces;
  own = f.2.own;
  level = even-level (block_walk x) m (elements_of x) f.2.even placed;
}

-- of an accepted section: the moves of its plan, its columns and its addresses are within their bounds
module _ (s : Start) (a : InBlocks s) (plan : Plan) (planned : Planned s.section s.processor plan) where
  pub plan-small : Small (moves_in plan) × ((moves_in plan).block ≡ s.section.layout.block)
  unfolding strided_of
  plan-small =
      let k = a.taken in
      let f = both plan (planned k.source k.accepted k.same) in
      (f.0, f.1 ∙ sym (ap (λ (w : Strided). w.layout.block) k.same))
    where
      both : (p : Plan) → PlannedFor a.taken.source s.processor p → Small (moves_in p) × ((moves_in p).block ≡ (layout a.taken.source).block)
      both (Constant m) f = (f.0, f.1)
      both (Learnt m) f = (f.0, f.1)

  pub column-low : (u : ℕ) → column_in s.section u < (moves_in plan).block
  unfolding column_of
  column-low u = rw plan-small.1 (way-low s.section.upward _ _ (mod-lt _ a.started.section-bounded.sized.block-pos))

pub address-fits : (w : Strided) → Bounded w → (u : ℕ) → u < w.count → rank (owner_of w.layout) (index_at w u) < 2147483648
unfolding rank
address-fits w b u h =
    let i : ℕ = index_at w u in
    omega (arith, tally-le (owns (owner_of w.layout) (owner_of w.layout i)) i, index-inside w b u h, b.sized.size-high)

-- two addresses below 2^32, and their difference
lands : (x y : ℕ) → x < 4294967296 → y < 4294967296 → y ≡ (x + (y + (4294967296 - x)) % 4294967296) % 4294967296
lands x y h l = omega arith

module _ (s : Start) (plan : Plan) (a : InBlocks s) (planned : Planned s.section s.processor plan) (here : s.place.0 < s.section.count)
    (x : Section) (ok : first_no (of_section x) ≡ 0) (same : s.section ≡ strided_of x) where
  counts : s.section.count ≡ count x
  unfolding strided_of
  counts = ap (λ (v : Strided). v.count) same

  v : Paced x s.processor plan
  unfolding strided_of
  v =
      paced x s.processor
      (subst (λ (v : Strided). Placed (elements_in v) v.count) same (elements-placed s.section a.started.section-bounded)) plan (planned x ok same)

  low : (u : ℕ) → u < (block_walk x).count → (block_walk x).address u < 256 ^ 4
  unfolding block_walk
  low u h = omega (arith, rank-low x ok u h (owner_of (layout x)))

  mine : v.paces.mine s.place.0 ≡ true
  mine =
      v.own.mine s.place.0
      ∙ owned_at_lem x ok s.processor s.place.0 (omega (arith, counts))
      ∙ sym (ap (λ (w : Strided). owned_at w s.processor s.place.0) same)
      ∙ a.mine here

  below : s.place.0 ≤ (block_walk x).count
  unfolding block_walk
  below = omega (arith, counts)

  -- the plan's column of a position is that which is found
  column-of : (u : ℕ) → u < s.section.count → v.paces.column u ≡ column_in s.section u
  unfolding column_at strided_of
  column-of u h =
      v.own.column u
      ∙ ap (λ (c : ℕ). on_way (upward x) (layout x).block (column_of (layout x) c)) (cell-at x ok u (omega (arith, counts)))
      ∙ sym (ap (λ (w : Strided). column_in w u) same)

  -- ---- the first entries

  module _ (bs front : List ℕ) (e : ℕ) (room : e ≤ length bs / 4) (r₁ : Report) (f : FillsBlocks s (take (4 * e) bs) front r₁) where
    part : Part (block_walk x) s.place.0 s.quota e bs (front ++ drop (4 * e) bs) r₁
    part = front-part (block_walk x) s.place.0 s.quota bs e room (f x ok same)

    pub long_same : length (front ++ drop (4 * e) bs) ≡ length bs
    long_same = ap length part.bytes ∙ stores-length bs 0 (addresses_on (block_walk x) r₁.entries s.place.0)

    pub long-ends : s.section.count ≤ r₁.place.0 → ByteFilled (fill_by (block_walk x) s.place.0 s.quota (words_of 4 bs)) bs (front ++ drop (4 * e) bs) r₁
    unfolding block_walk
    long-ends h =
        let most = (open-inside (block_walk x) (moves_in plan) v.paces low below mine r₁.entries part.each).1 in
        part-ends (block_walk x) s.place.0 s.quota part (omega (arith, part.reports.place, counts))

    pub long-over : {bs' : List ℕ} {r : Report} → FillsBlocks s (front ++ drop (4 * e) bs) bs' r → ByteFilled (fill_by (block_walk x) s.place.0 s.quota (words_of 4 bs)) bs bs' r
    long-over g = over-part (block_walk x) s.place.0 s.quota part (g x ok same)

    module _ (column : ℕ) (is : column ≡ column_in s.section s.place.0) (some : 0 < e) (back : Returned s column e r₁) (inside : r₁.place.0 < s.section.count)
        (p : Period) (at : p.column ≡ column) (entries : p.entries ≡ e) (places : p.places ≡ r₁.place.0 - s.place.0) (tries : p.tries ≡ r₁.tries)
        (add : p.add ≡ (rank (owner_of s.section.layout) (index_at s.section r₁.place.0) + (4294967296 - get_or (words_of 4 (front ++ drop (4 * e) bs)) 0 0)) % 4294967296) where
      -- the address a period on has moved by what is added
      moved : cyclic_address x r₁.place.0 ≡ (cyclic_address x s.place.0 + p.add) % 4294967296
      unfolding block_walk strided_of
      moved =
          let u : ℕ = r₁.place.0 in
          let first = first_word (block_walk x) (moves_in plan) v.paces low below mine part (omega (arith, back.entries, some)) in
          let there : rank (owner_of s.section.layout) (index_at s.section u) ≡ cyclic_address x u =
          ap (λ (w : Strided). rank (owner_of w.layout) (index_at w u)) same ∙ sym (address-at x ok u (omega (arith, counts))) in
          let sum : p.add ≡ (cyclic_address x u + (4294967296 - cyclic_address x s.place.0)) % 4294967296 =
          add ∙ (λ i. (there i + (4294967296 - first i)) % 4294967296) in
          rw sum (lands (cyclic_address x s.place.0) (cyclic_address x u) (omega (arith, low s.place.0 (omega (arith, counts)))) (omega (arith, low u (omega (arith, counts)))))

      pub long-passes : {bs' : List ℕ} {r : Report} → Passed s (moves_in plan) p (front ++ drop (4 * e) bs) bs' r
          → ByteFilled (fill_by (block_walk x) s.place.0 s.quota (words_of 4 bs)) bs bs' r
      unfolding block_walk
      long-passes {bs'} {r} g =
          let w = block_walk x in
          let m = moves_in plan in
          let u : ℕ = r₁.place.0 in
          let P : ℕ = u - s.place.0 in
          let end : s.place.0 + P ≡ u = omega (arith, back.later) in
          let column' : v.paces.column (s.place.0 + P) ≡ v.paces.column s.place.0 =
          ap v.paces.column end ∙ column-of u inside ∙ back.column ∙ is ∙ sym (column-of s.place.0 here) in
          let i : ℕ = g.whole in
          let entries' : r.entries ≡ i * e + g.last.turns = g.entries ∙ ap (λ (k : ℕ). i * k + g.last.turns) entries in
          let ahead : s.place.0 + i * P < count x = rw (places, counts) at g.ahead.places in
          let cost : i * r₁.tries + 3 ≤ s.quota = rw tries at g.ahead.tries in
          let steps = rw (counts, long_same, entries) at g.steps in
          let whole : i * e ≤ length bs / 4 = rw (long_same, entries) at g.ahead.entries in
          let copied = rw (entries', entries) at g.copied in
          passed-fills w m v.paces low v.level s.place.0 s.quota e P p.add bs (front ++ drop (4 * e) bs) bs' r₁ mine below v.paces.least some part
          back.entries (sym end) (omega (arith, counts)) column' (ap (cyclic_address x) end ∙ moved) i ahead cost (state_after s p i)
          (ap (λ (k : ℕ). s.place.0 + i * k) places) (ap (λ (k : ℕ). i * k) tries) (at ∙ is ∙ sym (column-of s.place.0 here)) g.last steps
          g.ahead.some whole copied entries' g.tries (rw counts at g.place)
