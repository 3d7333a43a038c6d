-- The fill of an accepted section from what was done by its extent: in blocks by the loops of a plan, in a run by one addition for
-- each entry. Assumes nothing.
use Prim.Native.Nat.{ℕ, ◌+◌, ◌/◌, ◌≤◌, ◌<◌}
use mathlib.Core.Path.{◌≡◌, refl, sym, ap, ◌∙◌, subst}
use mathlib.Core.Bool.{true, cond}
use mathlib.Core.List.{List}
use native.Mathlib.Nat.{le_refl}
use native.Mathlib.Omega.{arith}
use lib.Dec.{ltb}
use lib.IntN.{ℤ}
use lib.ListN.{length, take}
use Rattle.numbers.specs.Words.{words_of}
use Rattle.numbers.proofs.WordLaws.{words-length}
use Rattle.model.specs.Mappings.{cyclic, Section}
use Rattle.model.specs.Ownership.{rank}
use Rattle.model.specs.Sections.{layout, count, index, address}
use Rattle.model.specs.Steps.{cost_dealt, cost, next_dealt, next_place}
use Rattle.model.specs.Filling.{Walk, Filled, fill_by}
use Rattle.model.specs.ByteFills.{store_entries}
use Rattle.model.specs.Calls.{walk_of}
use Rattle.model.proofs.Walking.{owner-cyclic}
use Rattle.section.specs.declared.questions.Strided.{Strided}
use Rattle.section.specs.declared.shares.Span.{Span}
use Rattle.section.specs.declared.shares.Extent.{Extent}
use Rattle.section.specs.declared.shares.Extent.TheVariants.{Blocks}
use Rattle.section.specs.declared.shares.Share.{Share}
use Rattle.section.specs.Strides.{strided_of, index_at}
use Rattle.section.specs.Shares.{owned_of, off_base}
use Rattle.section.proofs.ShareLaws.{blocks-dealt}
use Rattle.walk.specs.declared.moves.Report.{Report}
use Rattle.walk.specs.Driving.{ByteFilled}
use Rattle.fill.specs.declared.ready.Start.{Start}
use Rattle.fill.specs.SectionMoves.{block_walk, onward}
use Rattle.fill.specs.Ready.{Accepted, FillsBytesFrom}
use Rattle.fill.specs.RunFills.{addresses_from, entries_in, InRun}
use Rattle.fill.specs.Starting.{InBlocks, FillsBlocks}
use Rattle.fill.proofs.RunFillLaws.{dealt, run-fill, at_count, placed, based, runs, address_is}

-- ---- in blocks

walk-blocks : (x : Section) {k : ℤ} → x.mapping.dealing ≡ cyclic k → walk_of x ≡ block_walk x
unfolding walk_of block_walk address cost next_place layout
walk-blocks x d = λ i. record {
  address = λ t. rank (owner-cyclic x.mapping d i) (index x t);
  cost = λ t. cost_dealt (d i) x t;
  next = λ t. next_dealt (d i) x t;
  count = count x;
  least = 3;
}

module _ (s : Start) (a : Accepted s) (e : s.extent ≡ Blocks) where
  pub in_blocks : InBlocks s
  in_blocks = record {
    started = a.started;
    taken = record { source = a.source; accepted = a.accepted; same = ap (λ (h : Share). h.section) a.same };
    mine = λ h. subst (λ (z : Extent). owned_of s.section s.processor z s.place.0 ≡ true) e (a.started.owned h);
  }

  pub of_blocks : (bs bs' : List ℕ) (r : Report) → FillsBlocks s bs bs' r → FillsBytesFrom s bs bs' r
  of_blocks bs bs' r f x ok same =
      let d = blocks-dealt x s.processor (sym (ap (λ (h : Share). h.extent) same) ∙ e) in
      subst (λ (v : Walk). ByteFilled (fill_by v s.place.0 s.quota (words_of 4 bs)) bs bs' r) (sym (walk-blocks x d.1))
      (f x ok (ap (λ (h : Share). h.section) same))

-- ---- at the count

pub of_none : (s : Start) → Accepted s → s.section.count ≤ s.place.0 → (bs : List ℕ)
    → FillsBytesFrom s bs bs (record { entries = 0; tries = 0; place = s.place })
unfolding walk_of strided_of store_entries
of_none s a h bs x ok same =
    let here : s.place.0 ≡ count x = omega (arith, a.started.place, ap (λ (v : Share). v.section.count) same) in
    subst (λ (f : Filled). ByteFilled f bs bs (record { entries = 0; tries = 0; place = s.place }))
    (sym (ap (λ (t : ℕ). fill_by (walk_of x) t s.quota (words_of 4 bs)) here ∙ at_count (walk_of x) s.quota (words_of 4 bs)))
    (record { entries = refl; tries = refl; place = here; bytes = refl })

-- ---- in a run

module _ (s : Start) (span : Span) (i : InRun s span) where
  pub room : (s.place.0 < span.high.0) × (span.base.0 ≤ index_at s.section s.place.0)
  room =
      let x = i.accepted.source in
      let ok = i.accepted.accepted in
      let same = i.accepted.same in
      let p = placed s span i x ok same in
      let b = based s span i x ok same s.place.0 (le_refl s.place.0) p.1 in
      (p.1, subst (λ (w : Strided). span.base.0 ≤ index_at w s.place.0) (sym (ap (λ (h : Share). h.section) same)) b)

  -- it ends in the section
  pub span-in : span.high.0 ≤ s.section.count
  unfolding strided_of
  span-in =
      let same = i.accepted.same in
      omega (arith, (dealt s span i i.accepted.source i.accepted.accepted same).inside, ap (λ (h : Share). h.section.count) same)

  pub of-run : (bs : List ℕ) (n first d p : ℕ) → n ≡ entries_in span.high.0 s.place.0 s.quota (length bs / 4)
      → first ≡ off_base s.section span s.place.0 → d ≡ onward s.section.upward s.section.stride
      → p ≡ cond (ltb (s.place.0 + n) span.high.0) (s.place.0 + n) s.section.count
      → FillsBytesFrom s bs (store_entries bs 0 (addresses_from n first d)) (record { entries = n; tries = n; place = record { 0 = p } })
  unfolding walk_of strided_of
  of-run bs n first d p en ef ed ep x ok same =
      let t = s.place.0 in
      let w : s.section ≡ strided_of x = ap (λ (h : Share). h.section) same in
      let l = (placed s span i x ok same).1 in
      let step : d ≡ onward (strided_of x).upward (strided_of x).stride = ed ∙ ap (λ (v : Strided). onward v.upward v.stride) w in
      let here : first ≡ address x t =
      ef ∙ ap (λ (v : Strided). off_base v span t) w ∙ sym (address_is s span i x ok same t (le_refl t) l) in
      let many : n ≡ entries_in span.high.0 t s.quota (length (words_of 4 bs)) =
      en ∙ ap (entries_in span.high.0 t s.quota) (sym (words-length 4 bs)) in
      let e = run-fill (walk_of x) t span.high.0 _ (runs s span i x ok same) (words_of 4 bs) t s.quota (le_refl t) l in
      record {
        entries = many ∙ sym e.entries;
        tries = many ∙ sym e.tries;
        place =
            ep ∙ (λ j. cond (ltb (t + many j) span.high.0) (t + many j) (w j).count) ∙ sym e.place;
        bytes = ap (store_entries bs 0) ((λ j. addresses_from (many j) (here j) (step j)) ∙ sym e.list ∙ ap (λ (m : ℕ). take m (fill_by (walk_of x) t s.quota (words_of 4 bs)).list) (sym e.entries));
      }
