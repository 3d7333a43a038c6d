-- The whole fill by its turns: what stands so far, and the fill of the rest; and where it ends. Assumes nothing.
use Prim.Native.Nat.{ℕ, ◌+◌, ◌-◌, ◌/◌, ◌≤◌, ◌<◌}
use mathlib.Core.Path.{◌≡◌, refl, sym, ap, ◌∙◌, subst}
use mathlib.Core.Bool.{or-true}
use mathlib.Core.List.{List, ◌++◌}
use native.Mathlib.Nat.{add-zero, zero-add}
use native.Mathlib.Omega.{arith}
use lib.Dec.{eqb}
use lib.ListN.{length, take, drop, take-append-drop, drop_of_length-le}
use lib.Seq.{length-take-le, take-add}
use borrow.Author.Tests.{eq-eqb, lt-ltb, le-ltb}
use Rattle.std.specs.Prelude.{Option, None}
use Rattle.numbers.specs.Words.{words_of}
use Rattle.numbers.proofs.WordLaws.{words-length}
use Rattle.model.specs.Filling.{Filled, stopped, fill_by}
use Rattle.model.specs.ByteFills.{store_entries}
use Rattle.model.specs.Axes.{axis_of}
use Rattle.model.specs.Grids.{GridSection, sections_of, grid_axis}
use Rattle.model.proofs.FillLoopLaws.{stops}
use Rattle.model.proofs.GridAccepted.{first-yes, second-yes, third-yes}
use Rattle.walk.specs.declared.moves.Report.{Report}
use Rattle.walk.specs.Driving.{ByteFilled}
use Rattle.grid_fill.specs.declared.rows.RowPlan.{RowPlan}
use Rattle.model.specs.declared.three.Three.{Three}
use Rattle.model.specs.declared.Position.{Position}
use Rattle.grid_fill.specs.declared.turns.Whole.{Whole}
use Rattle.grid_fill.specs.declared.turns.Turn.{Turn}
use Rattle.grid_fill.specs.Rows.{PlanOf, Standing, place_of, grid_walk, Goes, Known, Turned}
use Rattle.grid_fill.specs.Turns.{place_in}
use Rattle.walk.proofs.StoreLaws.{stores-append}
use Rattle.grid_fill.proofs.RowPlaces.{counts}
use Rattle.grid_fill.proofs.RowTurns.{goes_none, goes-both}

-- what the loop keeps, of a section
pub record Filling (x : GridSection) (p : RowPlan) (start : Three Position) (quota : ℕ) (bs₀ bs : List ℕ) (at : Three Position) (whole : Option Whole) (paid n : ℕ) : Type 0 where
  pub stands : Standing x p at
  pub goes : Goes (grid_walk x) (place_of x start) quota (words_of 4 bs₀) n paid (place_of x at) (words_of 4 bs)
  pub stored : bs ≡ store_entries bs₀ 0 (take n (words_of 4 bs))
  pub known : Known x p bs n whole

module _ (x : GridSection) (p : RowPlan) (o : PlanOf p x) (start : Three Position) (quota : ℕ) (bs₀ : List ℕ) where
  pub filling-starts : Standing x p start → Filling x p start quota bs₀ bs₀ start None 0 0
  unfolding store_entries
  filling-starts st =
      record { stands = st; goes = goes_none (grid_walk x) (place_of x start) quota (words_of 4 bs₀); stored = refl; known = tt }

  module _ {bs : List ℕ} {at : Three Position} {whole : Option Whole} {paid n : ℕ} (f : Filling x p start quota bs₀ bs at whole paid n) where
    -- a turn more
    pub filling-turns : n ≤ length bs / 4 → (bs' : List ℕ) (t : Turn) → Turned x p at (quota - paid) n bs bs' t
        → Filling x p start quota bs₀ bs' t.stand t.whole (paid + t.tries) (n + t.entries)
    filling-turns h bs' t r =
        let xs : List ℕ = take n (words_of 4 bs) in
        let ys : List ℕ = take t.entries (drop n (words_of 4 bs')) in
        let long : length xs ≡ n = length-take-le n (words_of 4 bs) (omega (arith, words-length 4 bs)) in
        let place : 0 + length xs ≡ n = zero-add (length xs) ∙ long in
        let all : take (n + t.entries) (words_of 4 bs') ≡ xs ++ ys =
        take-add n t.entries (words_of 4 bs') ∙ ap (λ (l : List ℕ). l ++ ys) r.before in
        record {
          stands = r.stands;
          goes =
              goes-both (grid_walk x) (place_of x start) quota (words_of 4 bs₀) n paid (place_of x at) (words_of 4 bs) t.entries t.tries (place_of x t.stand) (words_of 4 bs') f.goes r.goes
              r.before;
          stored =
              r.stored
              ∙ (λ i. store_entries (f.stored i) (sym place i) ys)
              ∙ sym (stores-append bs₀ 0 xs ys)
              ∙ ap (store_entries bs₀ 0) (sym all);
          known = r.known;
        }

    -- ---- where it ends

    -- nothing more is written
    ends : fill_by (grid_walk x) (place_of x at) (quota - paid) (drop n (words_of 4 bs)) ≡ stopped (place_of x at) (drop n (words_of 4 bs))
        → (r : Report) → r.entries ≡ n → r.tries ≡ paid → r.place.0 ≡ place_in p at
        → ByteFilled (fill_by (grid_walk x) (place_of x start) quota (words_of 4 bs₀)) bs₀ bs r
    ends s r en et ep =
        let is : fill_by (grid_walk x) (place_of x start) quota (words_of 4 bs₀) ≡ record { entries = n; tries = paid; place = place_of x at; list = words_of 4 bs } =
        f.goes
        ∙ ap (λ (h : Filled). record { entries = n + h.entries; tries = paid + h.tries; place = h.place; list = take n (words_of 4 bs) ++ h.list }) s
        ∙ (λ i. record { entries = add-zero n i; tries = add-zero paid i; place = place_of x at; list = take-append-drop n (words_of 4 bs) i }) in
        subst (λ (h : Filled). ByteFilled h bs₀ bs r) (sym is) (record { entries = en; tries = et; place = ep ∙ place_is; bytes = f.stored })
      where
        place_is : place_in p at ≡ place_of x at
        place_is =
            rw (
              counts (sections_of x).first (first-yes x o.accepted) p.shares.first o.first,
              counts (sections_of x).second (second-yes x o.accepted) p.shares.second o.second,
              counts (sections_of x).third (third-yes x o.accepted) p.shares.third o.third,
            )

    module _ (r : Report) (en : r.entries ≡ n) (et : r.tries ≡ paid) (ep : r.place.0 ≡ place_in p at) where
      pub ends-full : length bs / 4 ≤ n → ByteFilled (fill_by (grid_walk x) (place_of x start) quota (words_of 4 bs₀)) bs₀ bs r
      unfolding fill_by
      ends-full h = ends (rw (drop_of_length-le (words_of 4 bs) {i = n} (omega (arith, words-length 4 bs)))) r en et ep

      pub ends-count : p.shares.third.section.count ≤ at.third.0 → ByteFilled (fill_by (grid_walk x) (place_of x start) quota (words_of 4 bs₀)) bs₀ bs r
      unfolding grid_axis
      ends-count h =
          let l : (axis_of (sections_of x).third).count ≤ at.third.0 = omega (arith, counts (sections_of x).third (third-yes x o.accepted) p.shares.third o.third) in
          ends (stops (grid_walk x) (place_of x at) (quota - paid) (drop n (words_of 4 bs)) (rw (le-ltb at.third.0 (axis_of (sections_of x).third).count l, eq-eqb (grid_axis (sections_of x)).count (grid_axis (sections_of x)).count refl))) r en et ep

      pub ends-quota : quota - paid < 3 → ByteFilled (fill_by (grid_walk x) (place_of x start) quota (words_of 4 bs₀)) bs₀ bs r
      ends-quota h =
          ends (stops (grid_walk x) (place_of x at) (quota - paid) (drop n (words_of 4 bs)) (rw (lt-ltb (quota - paid) 3 h) (or-true (eqb (place_of x at) (grid_walk x).count)))) r en et ep
