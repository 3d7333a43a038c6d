-- The rows of a plane by a fill of the second dimension: each address in its list is that of a row after another, and the place after
-- them is the next row. Assumes nothing.
use Prim.Native.Nat.{ℕ, ◌+◌, ◌*◌, ◌/◌, ◌≤◌, ◌<◌}
use mathlib.Core.Path.{◌≡◌, sym, ap, ◌∙◌}
use mathlib.Core.Bool.{true}
use mathlib.Core.List.{List}
use native.Mathlib.Omega.{arith}
use lib.Dec.{lit≤}
use lib.ListN.{length, get_or}
use Rattle.numbers.specs.Words.{words_of}
use Rattle.numbers.proofs.WordLaws.{words-length}
use Rattle.model.specs.Sections.{address}
use Rattle.model.specs.Filling.{Filled, fill_by}
use Rattle.model.specs.Calls.{walk_of}
use Rattle.model.specs.Axes.{Axis, axis_of, owns_on, walk_on}
use Rattle.model.specs.Grids.{GridSection, sections_of}
use Rattle.model.proofs.FillLoopLaws.{fill-some}
use Rattle.model.proofs.ByteStores.{stores-length}
use Rattle.model.proofs.ByteFillsHold.{Written, fill-written, stored-words, address-low}
use Rattle.model.proofs.ByteFillsHold as bytes
use Rattle.model.proofs.GridAccepted.{second-yes, third-yes}
use Rattle.walk.specs.declared.moves.Report.{Report}
use Rattle.walk.specs.Driving.{ByteFilled}
use Rattle.fill.specs.Ready.{FillsBytesFrom}
use Rattle.grid_fill.specs.declared.rows.RowPlan.{RowPlan}
use Rattle.model.specs.declared.three.Three.{Three}
use Rattle.model.specs.declared.Position.{Position}
use Rattle.grid_fill.specs.declared.steps.Step.{Step}
use Rattle.grid_fill.specs.Steps.{from_place, Stepped}
use Rattle.grid_fill.specs.Rows.{PlanOf, On, Standing}
use Rattle.grid_fill.specs.Turns.{base_at}
use Rattle.grid_fill.proofs.BaseFills.{after, wrote_at, place_after, after-keeps}
use Rattle.grid_fill.proofs.RowPlaces.{second_walks, next_le, next-on, base_of}

module _ (x : GridSection) (p : RowPlan) (o : PlanOf p x) (at : Three Position) (st : Standing x p at) (v : at.third.0 < (axis_of (sections_of x).third).count)
    (plane : Step) (in-plane : Stepped p.shares.third at.third.0 plane) (bs bs' : List ℕ) (r : Report) (f : FillsBytesFrom (from_place p.shares.second at.second.0 1000000) bs bs' r) where
  abbrev second : Axis
  second = axis_of (sections_of x).second

  abbrev row_after : ℕ → ℕ
  row_after j = after (walk_on second) at.second.0 j

  abbrev g : Filled
  g = fill_by (walk_on second) at.second.0 1000000 (words_of 4 bs)

  gave : ByteFilled g bs bs' r
  unfolding walk_of address
  gave = f (sections_of x).second (second-yes x o.accepted) o.second.share

  written : Written (words_of 4 bs) g
  unfolding address
  written =
      fill-written (walk_on second) (λ t h. omega (arith, address-low (sections_of x).second (second-yes x o.accepted) t h))
      (bytes.next_le (sections_of x).second (second-yes x o.accepted)) at.second.0 1000000 (words_of 4 bs) (omega (arith, (st.second v).0))

  pub few-rows : r.entries ≤ length bs / 4
  few-rows = omega (arith, gave.entries, written.inside, words-length 4 bs)

  pub rows_long : length bs' ≡ length bs
  rows_long = ap length gave.bytes ∙ stores-length bs 0 _

  pub some-rows : 0 < length bs / 4 → 0 < r.entries
  some-rows h =
      rw gave.entries
      (fill-some (walk_on second) at.second.0 1000000 (words_of 4 bs) (omega (arith, words-length 4 bs)) (λ e. omega (arith, (st.second v).0)) (lit≤ tt))

  pub row_on : (j : ℕ) → j < r.entries → On second p.shares.second.processor (row_after j)
  row_on j h =
      let k : j < g.entries = omega (arith, gave.entries) in
      let own = after-keeps (walk_on second) Owned on (words_of 4 bs) at.second.0 1000000 j (omega arith) (omega (arith, (st.second v).0), λ l. (st.second v).1) in
      let l : row_after j < second.count = omega (arith, own.0, (wrote_at (walk_on second) (words_of 4 bs) at.second.0 1000000 j k).before) in
      (l, own.1 l)
    where
      Owned : ℕ → Type 0
      Owned t = (t ≤ second.count) × (t < second.count → owns_on second p.shares.second.processor t ≡ true)

      on : (t : ℕ) → (t ≡ second.count → ⊥) → Owned t → Owned (second.next t)
      on t other own =
          let k : t < second.count = omega (arith, own.0) in
          let here : On second p.shares.second.processor t = (k, own.1 k) in
          (next_le second (second_walks x p o) p.shares.second.processor t here, λ l. (next-on second (second_walks x p o) p.shares.second.processor t here l).1)

  pub row-base : (j : ℕ) (h : j < r.entries)
      → base_at p.elements p.rows plane.address.0 bs' j ≡ base_of x p o (row_after j) at.third.0 (row_on j h) (st.third v)
  row-base j h =
      let words : words_of 4 bs' ≡ g.list = ap (words_of 4) gave.bytes ∙ stored-words bs g written in
      let e : get_or (words_of 4 bs') j 0 ≡ (walk_on second).address (row_after j) =
      ap (λ (l : List ℕ). get_or l j 0) words ∙ (wrote_at (walk_on second) (words_of 4 bs) at.second.0 1000000 j (omega (arith, gave.entries))).entry in
      let f = (in-plane (sections_of x).third (third-yes x o.accepted) o.third.share).0 in
      λ i. p.elements * (e i + p.rows * f i)

  pub row-place : r.place.0 ≡ row_after r.entries
  row-place =
      gave.place ∙ place_after (walk_on second) (words_of 4 bs) at.second.0 1000000 ∙ ap row_after (sym gave.entries)
