-- The rows of a grid processor: where each lies in its storage, and the first place of the row after it. Assumes nothing.
use Prim.Native.Nat.{ℕ, ◌+◌, ◌*◌, ◌≤◌, ◌<◌, zero-le}
use mathlib.Core.Path.{◌≡◌, refl, sym, ap, ◌∙◌, subst}
use mathlib.Core.Bool.{Bool, true, false, cond}
use native.Mathlib.Nat.{le_refl}
use native.Mathlib.Omega.{arith}
use lib.Dec.{ltb}
use borrow.Author.Tests.{lt-ltb, le-ltb, ltb-true}
use Rattle.model.specs.Mappings.{Section}
use Rattle.model.specs.Ownership.{rank, held}
use Rattle.model.specs.Sections.{layout}
use Rattle.model.specs.Questions.{first_no, of_section}
use Rattle.model.specs.Axes.{paired, product, Axis, axis_of, owns_on, first_on, later_on, walk_on, next_from, rows}
use Rattle.model.specs.Grids.{GridSection, sections_of}
use Rattle.model.proofs.AcceptedLaws.{mapping-yes}
use Rattle.model.proofs.Demand2Holds.{owner-lt}
use Rattle.model.proofs.PairLaws.{pair-first, pair-second, pair_lt}
use Rattle.model.proofs.ProductLaws.{Dealt, rank-pair}
use Rattle.model.proofs.AxisLaws.{WalksOn}
use Rattle.model.proofs.RowLaws.{Sound, first-least, later-least, owner-on, rows-own, later_rows}
use Rattle.model.proofs.RowFills.{InRow}
use Rattle.model.proofs.Walking.{walks-on}
use Rattle.model.proofs.GridAccepted.{first-yes, second-yes, third-yes}
use Rattle.model.proofs.GridWalks.{section-sound}
use Rattle.section.specs.declared.shares.Share.{Share}
use Rattle.section.specs.Strides.{strided_of}
use Rattle.grid_fill.specs.declared.rows.RowPlan.{RowPlan}
use Rattle.grid_fill.specs.Rows.{ShareIn, PlanOf, On, Standing, place_of, entering_at}

-- ---- one dimension

module _ (x : Section) (ok : first_no (of_section x) ≡ 0) where
  pub dealt : Dealt (axis_of x).array
  unfolding layout
  dealt = owner-lt x.mapping (mapping-yes x ok)

  module _ (s : Share) (i : ShareIn x s) where
    pub coordinate : s.processor < (axis_of x).array.processors
    unfolding strided_of layout
    coordinate = omega (arith, i.processor, ap (λ (h : Share). h.section.layout.processors) i.share)

    pub counts : s.section.count ≡ (axis_of x).count
    unfolding strided_of
    counts = ap (λ (h : Share). h.section.count) i.share

-- the place after one of processor q
module _ (a : Axis) (walk : WalksOn a) (q t : ℕ) (on : On a q t) where
  pub next-is : a.next t ≡ later_on a q t
  unfolding WalksOn
  next-is = walk q t on.0 on.1

  pub next_le : a.next t ≤ a.count
  next_le = rw next-is (later-least a q t on.0).within

  pub next-on : a.next t < a.count → On a q (a.next t)
  next-on h = (h, rw next-is ((later-least a q t on.0).passes (rw next-is at h)))

-- a processor that has a place has a first one
pub first_on_lem : (a : Axis) (q t : ℕ) → On a q t → On a q (first_on a q)
first_on_lem a q t on =
    let l = first-least a q in
    let h : first_on a q < a.count = omega (arith, on.0, l.least t zero-le on.0 on.1) in
    (h, l.passes h)

-- ---- rows of two axes

module _ (a b c : Axis) (sa : Sound a) (sb : Sound b) (da : Dealt a.array) (db : Dealt b.array) where
  -- the address at position t of row u of plane v
  pub row-address : (q r t u v : ℕ) → On a q t → On b r u → v < c.count
      → (walk_on (rows a (rows b c))).address (paired a.count t (paired b.count u v))
      ≡ held a.array.owner a.array.size q * ((walk_on b).address u + held b.array.owner b.array.size r * (walk_on c).address v)
      + (walk_on a).address t
  row-address q r t u v ha hb hc =
      let i : ℕ = a.element t in
      let j : ℕ = b.element u in
      let k : ℕ = c.element v in
      let e : (rows a (rows b c)).element (paired a.count t (paired b.count u v)) ≡ paired a.array.size i (paired b.array.size j k) =
      rw (
        pair-first a.count t (paired b.count u v) ha.0,
        pair-second a.count t (paired b.count u v) ha.0,
        pair-first b.count u v hb.0,
        pair-second b.count u v hb.0,
      ) in
      ap (rank (product a.array (product b.array c.array)).owner) e
      ∙ rank-pair a.array (product b.array c.array) da i (paired b.array.size j k) (sa.elements t ha.0)
      ∙ ap (λ (z : ℕ). paired (held a.array.owner a.array.size (a.array.owner i)) (rank a.array.owner i) z)
      (rank-pair b.array c.array db j k (sb.elements u hb.0))
      ∙ (rw (owner-on a q t ha.1, owner-on b r u hb.1) (omega arith))

  -- processor (q, r, s) owns row u of plane v
  row-owned : (r s u v : ℕ) → r < b.array.processors → On b r u → On c s v
      → owns_on (rows b c) (paired b.array.processors r s) (paired b.count u v) ≡ true
  row-owned r s u v h hb hc = rows-own b c sb r s u v h hb.0 ∙ rw (hb.1, hc.1)

  -- the place after the end of the row: in the next row of the plane, in the first of the next plane, or the count
  pub row-after : WalksOn b → WalksOn c → (q r s u v : ℕ) → r < b.array.processors → On b r u → On c s v
      → next_from a (rows b c) q (paired b.count u v) a.count
      ≡ cond (ltb (b.next u) b.count) (paired a.count (first_on a q) (paired b.count (b.next u) v))
      (cond (ltb (c.next v) c.count) (paired a.count (first_on a q) (paired b.count (first_on b r) (c.next v))) (a.count * (b.count * c.count)))
  row-after wb wc q r s u v h hb hc =
      rw (le-ltb a.count a.count (le_refl a.count), owner-on (rows b c) _ (paired b.count u v) (row-owned r s u v h hb hc), later, owner-on c s v hc.1, ← next-is c wc s v hc)
      (go (ltb (b.next u) b.count) refl (ltb (c.next v) c.count) refl)
    where
      later : later_on (rows b c) (paired b.array.processors r s) (paired b.count u v) ≡ next_from b c r v (b.next u)
      later =
          later_rows b c sb r s h u v hb.0 hc.0 (row-owned r s u v h hb hc)
          ∙ ap (next_from b c r v) (sym (next-is b wb r u hb))

      go : (i : Bool) → ltb (b.next u) b.count ≡ i → (j : Bool) → ltb (c.next v) c.count ≡ j
          → let z : ℕ = cond i (paired b.count (b.next u) v) (cond j (paired b.count (first_on b r) (c.next v)) (b.count * c.count)) in
          cond (ltb z (b.count * c.count)) (paired a.count (first_on a q) z) (a.count * (b.count * c.count))
          ≡ cond i (paired a.count (first_on a q) (paired b.count (b.next u) v))
          (cond j (paired a.count (first_on a q) (paired b.count (first_on b r) (c.next v))) (a.count * (b.count * c.count)))
      go true e j f = rw (lt-ltb _ _ (pair_lt b.count c.count (b.next u) v (ltb-true _ _ e) hc.0))
      go false e true f =
          rw (lt-ltb _ _ (pair_lt b.count c.count (first_on b r) (c.next v) (first_on_lem b r u hb).0 (ltb-true _ _ f)))
      go false e false f = rw (le-ltb _ _ (le_refl (b.count * c.count)))

-- ---- of a plan

module _ (x : GridSection) (p : RowPlan) (o : PlanOf p x) where
  abbrev pub first : Axis
  first = axis_of (sections_of x).first

  abbrev pub second : Axis
  second = axis_of (sections_of x).second

  abbrev pub third : Axis
  third = axis_of (sections_of x).third

  pub first_walks : WalksOn (axis_of (sections_of x).first)
  first_walks = walks-on (sections_of x).first (first-yes x o.accepted)

  pub second_walks : WalksOn (axis_of (sections_of x).second)
  second_walks = walks-on (sections_of x).second (second-yes x o.accepted)

  pub third-walks : WalksOn (axis_of (sections_of x).third)
  third-walks = walks-on (sections_of x).third (third-yes x o.accepted)

  module _ (u v : ℕ) (hu : On (axis_of (sections_of x).second) p.shares.second.processor u) (hv : On (axis_of (sections_of x).third) p.shares.third.processor v) where
    -- how high the row lies
    abbrev pub base_of : ℕ
    base_of = p.elements * ((walk_on (axis_of (sections_of x).second)).address u + p.rows * (walk_on (axis_of (sections_of x).third)).address v)

    pub in_row : InRow first (rows second third) p.shares.first.processor (paired second.count u v) base_of
    in_row = record {
      row = pair_lt second.count third.count u v hu.0 hv.0;
      address = λ t h own.
          row-address first second third (section-sound (sections_of x).first (first-yes x o.accepted))
          (section-sound (sections_of x).second (second-yes x o.accepted))
          (dealt (sections_of x).first (first-yes x o.accepted)) (dealt (sections_of x).second (second-yes x o.accepted))
          p.shares.first.processor p.shares.second.processor t u v (h, own) hu hv.0
          ∙ rw (← o.elements, ← o.rows);
    }

    -- the place after its end
    pub after-row : (next : ℕ) → next ≡ third.next v
        → next_from first (rows second third) p.shares.first.processor (paired second.count u v) first.count
        ≡ place_of x (entering_at p (second.next u) v next)
    after-row next e =
        row-after first second third (section-sound (sections_of x).first (first-yes x o.accepted))
        (section-sound (sections_of x).second (second-yes x o.accepted))
        (dealt (sections_of x).first (first-yes x o.accepted)) (dealt (sections_of x).second (second-yes x o.accepted))
        second_walks third-walks p.shares.first.processor p.shares.second.processor p.shares.third.processor u v
        (coordinate (sections_of x).second (second-yes x o.accepted) p.shares.second o.second) hu hv
        ∙ rw (e, counts (sections_of x).second (second-yes x o.accepted) p.shares.second o.second, ← o.enter, ← o.row)
        (go (ltb (second.next u) second.count))
      where
        go : (b : Bool)
            → cond b (paired first.count p.enter.0 (paired second.count (second.next u) v))
            (cond (ltb (third.next v) third.count) (paired first.count p.enter.0 (paired second.count p.row.0 (third.next v))) (first.count * (second.count * third.count)))
            ≡ place_of x (cond b (record { first = p.enter; second = record { 0 = second.next u }; third = record { 0 = v } }) (record { first = p.enter; second = p.row; third = record { 0 = third.next v } }))
        go true = rw (lt-ltb v third.count hv.0)
        go false = refl

    -- where it is one
    pub after-stands : (t next : ℕ) → On first p.shares.first.processor t → next ≡ third.next v → Standing x p (entering_at p (second.next u) v next)
    after-stands t next ht e =
        let n = counts (sections_of x).second (second-yes x o.accepted) p.shares.second o.second in
        let is : entering_at p (second.next u) v next
        ≡ cond (ltb (second.next u) second.count) (record { first = p.enter; second = record { 0 = second.next u }; third = record { 0 = v } })
        (record { first = p.enter; second = p.row; third = record { 0 = third.next v } }) =
        λ i. cond (ltb (second.next u) (n i)) (record { first = p.enter; second = record { 0 = second.next u }; third = record { 0 = v } })
        (record { first = p.enter; second = p.row; third = record { 0 = e i } }) in
        subst (Standing x p) (sym is) (go (ltb (second.next u) second.count) refl)
      where
        enters : On first p.shares.first.processor p.enter.0
        enters = rw o.enter (first_on_lem first p.shares.first.processor t ht)

        go : (b : Bool) → ltb (second.next u) second.count ≡ b
            → Standing x p (cond b (record { first = p.enter; second = record { 0 = second.next u }; third = record { 0 = v } }) (record { first = p.enter; second = p.row; third = record { 0 = third.next v } }))
        go true i = record {
          within = omega (arith, hv.0);
          first = λ h. enters;
          second = λ h. next-on second second_walks p.shares.second.processor u hu (ltb-true _ _ i);
          third = λ h. hv;
        }
        go false i = record {
          within = next_le third third-walks p.shares.third.processor v hv;
          first = λ h. enters;
          second = λ h. rw o.row (first_on_lem second p.shares.second.processor u hu);
          third = λ h. next-on third third-walks p.shares.third.processor v hv h;
        }
