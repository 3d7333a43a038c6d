-- Turns of a fill by rows: a row that was put goes on with the fill, and a row that is known whole goes on with it wherever it is put
-- again. Assumes nothing.
use Prim.Native.Nat.{ℕ, ◌+◌, ◌-◌, ◌*◌, ◌<◌}
use mathlib.Core.Path.{◌≡◌, sym, ap, ◌∙◌}
use mathlib.Core.List.{List, ◌++◌, append_assoc}
use native.Mathlib.Nat.{zero-add, sub-zero, sub-add-eq}
use native.Mathlib.Omega.{arith}
use lib.ListN.{length, take, drop}
use lib.Seq.{take-add, drop-drop}
use Rattle.numbers.proofs.SearchLaws.{tally-le}
use Rattle.model.specs.Ownership.{rank, owns}
use Rattle.model.specs.Filling.{Walk, on_base, Filled, fill_by}
use Rattle.model.specs.Axes.{paired, Axis, axis_of, walk_on, next_from, rows}
use Rattle.model.specs.Grids.{GridSection, sections_of, grid_axis}
use Rattle.model.proofs.FillLoopLaws.{followed}
use Rattle.model.proofs.RowFills.{fill-row}
use Rattle.model.proofs.PairLaws.{pair_lt}
use Rattle.model.proofs.GridWalks.{element-low}
use Rattle.grid_fill.specs.declared.rows.RowPlan.{RowPlan}
use Rattle.grid_fill.specs.Rows.{PlanOf, On, grid_walk, Goes}
use Rattle.walk.proofs.StoreLaws.{Put}
use Rattle.grid_fill.proofs.RowPlaces.{base_of, in_row, first_walks}

-- ---- parts of a fill one after another

module _ (w : Walk) where
  pub goes_none : (t quota : ℕ) (l : List ℕ) → Goes w t quota l 0 0 t l
  goes_none t quota l = simp (zero-add, sub-zero)

  -- a part, and then another
  pub goes-both : (t quota : ℕ) (l : List ℕ) (e c u : ℕ) (k : List ℕ) (e' c' u' : ℕ) (k' : List ℕ)
      → Goes w t quota l e c u k → Goes w u (quota - c) (drop e k) e' c' u' (drop e k') → take e k' ≡ take e k
      → Goes w t quota l (e + e') (c + c') u' k'
  goes-both t quota l e c u k e' c' u' k' f g same =
      let r : Filled = fill_by w u' (quota - c - c') (drop e' (drop e k')) in
      let left : quota - c - c' ≡ quota - (c + c') = sym (sub-add-eq quota c c') in
      let rest : drop e' (drop e k') ≡ drop (e + e') k' = drop-drop e' e k' in
      let list : take e k ++ (take e' (drop e k') ++ r.list) ≡ take (e + e') k' ++ r.list =
      sym (append_assoc (take e k) (take e' (drop e k')) r.list)
      ∙ ap (λ (z : List ℕ). z ++ r.list) (ap (λ (z : List ℕ). z ++ take e' (drop e k')) (sym same) ∙ sym (take-add e e' k')) in
      let entries : e + (e' + r.entries) ≡ e + e' + r.entries = omega arith in
      let tries : c + (c' + r.tries) ≡ c + c' + r.tries = omega arith in
      f
      ∙ ap (λ (h : Filled). record { entries = e + h.entries; tries = c + h.tries; place = h.place; list = take e k ++ h.list }) g
      ∙ (λ i. record { entries = entries i; tries = tries i; place = r.place; list = list i })
      ∙ (λ i.
      let h : Filled = fill_by w u' (left i) (rest i) in
      record { entries = e + e' + h.entries; tries = c + c' + h.tries; place = h.place; list = take (e + e') k' ++ h.list })

-- ---- a row

module _ (x : GridSection) (p : RowPlan) (o : PlanOf p x) where
  abbrev first : Axis
  first = axis_of (sections_of x).first

  abbrev second : Axis
  second = axis_of (sections_of x).second

  abbrev third : Axis
  third = axis_of (sections_of x).third

  -- a fill of the first dimension
  abbrev along : ℕ → ℕ → List ℕ → Filled
  along t quota l = fill_by (walk_on first) t quota l

  module _ (u v : ℕ) (hu : On (axis_of (sections_of x).second) p.shares.second.processor u) (hv : On (axis_of (sections_of x).third) p.shares.third.processor v) where
    abbrev base : ℕ
    base = base_of x p o u v hu hv

    -- no address wraps
    pub base-low : (t : ℕ) → On first p.shares.first.processor t → base_of x p o u v hu hv < 2147483648
    unfolding grid_axis rank
    base-low t ht =
        let r = in_row x p o u v hu hv in
        let place : ℕ = paired first.count t (paired second.count u v) in
        let i : ℕ = (grid_axis (sections_of x)).element place in
        let owner = (grid_axis (sections_of x)).array.owner in
        omega (
          arith,
          r.address t ht.0 ht.1,
          tally-le (owns owner (owner i)) i,
          element-low x o.accepted place (pair_lt first.count (second.count * third.count) t (paired second.count u v) ht.0 r.row),
        )

    -- a row that was put from entry n on
    pub row_goes : (t quota n : ℕ) (ws ws' : List ℕ) (g : Filled) → On first p.shares.first.processor t
        → fill_by (on_base (base_of x p o u v hu hv) (walk_on first)) t quota (drop n ws) ≡ g
        → length (take g.entries g.list) ≡ g.entries → Put ws ws' n (take g.entries g.list)
        → Goes (grid_walk x) (paired first.count t (paired second.count u v)) quota (drop n ws) g.entries g.tries
        (next_from first (rows second third) p.shares.first.processor (paired second.count u v) g.place) (drop n ws')
    unfolding grid_axis
    row_goes t quota n ws ws' g ht is long put =
        let next : ℕ = next_from first (rows second third) p.shares.first.processor (paired second.count u v) g.place in
        let rest : drop g.entries (drop n ws) ≡ drop g.entries (drop n ws') = sym (rw long at put.rest) in
        let front : take g.entries g.list ≡ take g.entries (drop n ws') = sym (rw long at put.front) in
        fill-row (first_walks x p o) (in_row x p o u v hu hv) t quota (drop n ws) ht.0 ht.1
        ∙ ap (λ (h : Filled). followed h (fill_by (grid_walk x) (next_from first (rows second third) p.shares.first.processor (paired second.count u v) h.place) (quota - h.tries) (drop h.entries (drop n ws)))) is
        ∙ (λ i.
        let r : Filled = fill_by (grid_walk x) next (quota - g.tries) (rest i) in
        record { entries = g.entries + r.entries; tries = g.tries + r.tries; place = r.place; list = front i ++ r.list })
