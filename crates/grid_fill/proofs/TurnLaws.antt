-- One row as a turn of the fill: what the fill of the first dimension gives, put where the row lies. Assumes nothing.
use Prim.Native.Nat.{ℕ, ◌+◌, ◌*◌, ◌/◌, ◌≤◌, ◌<◌}
use mathlib.Core.Path.{◌≡◌, refl, sym, ap, ◌∙◌, subst}
use mathlib.Core.Bool.{Bool, true, false, cond}
use mathlib.Core.List.{List, ◌++◌}
use native.Mathlib.Nat.{le_trans, mul-le-mul_left, mul-le-mul_right}
use native.Mathlib.Omega.{arith}
use lib.Dec.{eqb, ltb}
use lib.ListN.{length, take, drop, length-drop}
use lib.Seq.{length-take-le}
use borrow.Author.Tests.{lt-ltb, ltb-true, ltb-false, eqb-true}
use Rattle.std.specs.Prelude.{None}
use Rattle.std.specs.Bool.{then_some}
use Rattle.numbers.specs.Words.{words_of}
use Rattle.numbers.proofs.WordLaws.{words-length}
use Rattle.model.specs.Mappings.{Section}
use Rattle.model.specs.Sections.{address, owns_at}
use Rattle.model.specs.Questions.{first_no, of_section}
use Rattle.model.specs.Filling.{on_base, Filled, fill_by}
use Rattle.model.specs.ByteFills.{store_entries}
use Rattle.model.specs.Axes.{paired, Axis, axis_of, owns_on, walk_on, next_from, rows}
use Rattle.model.specs.Grids.{GridSection, sections_of}
use Rattle.model.proofs.NeighbourLaws.{cost-le, cost-some}
use Rattle.model.proofs.FillLoopLaws.{fill-some, fill-keeps}
use Rattle.model.proofs.FillBounds.{Within, fill-within}
use Rattle.model.proofs.ByteFillsHold.{Written, fill-written, address-low}
use Rattle.model.proofs.ByteFillsHold as bytes
use Rattle.model.proofs.GridAccepted.{first-yes, second-yes, third-yes}
use Rattle.section.specs.declared.shares.Share.{Share}
use Rattle.section.specs.Shares.{owned_by}
use Rattle.section.proofs.ShareLaws.{owned-by}
use Rattle.walk.specs.declared.moves.Report.{Report}
use Rattle.walk.specs.Driving.{ByteFilled}
use Rattle.grid_fill.specs.declared.rows.RowPlan.{RowPlan}
use Rattle.model.specs.declared.three.Three.{Three}
use Rattle.model.specs.declared.Position.{Position}
use Rattle.grid_fill.specs.declared.turns.Turn.{Turn}
use Rattle.grid_fill.specs.declared.steps.Step.{Step}
use Rattle.grid_fill.specs.Steps.{Placed, Stepped}
use Rattle.grid_fill.specs.Rows.{ShareIn, entering_at, PlanOf, On, Standing, place_of, grid_walk, Goes, Known, Turned}
use Rattle.grid_fill.specs.Turns.{turn_after, Begun}
use Rattle.grid_fill.proofs.BaseFills.{on_top, fill-base}
use Rattle.walk.proofs.StoreLaws.{Put, put-words, stores-part, words-part}
use Rattle.grid_fill.proofs.ShareFills.{on-top-front}
use Rattle.grid_fill.proofs.RowPlaces.{counts, first_walks, next_le, next-on, base_of, after-row, after-stands}
use Rattle.grid_fill.proofs.RowTurns.{base-low, row_goes}
use Rattle.grid_fill.proofs.WholeRows.{whole-stored}

-- a place of an accepted section that its processor owns is one of the share
pub placed : (x : Section) → first_no (of_section x) ≡ 0 → (s : Share) → ShareIn x s → (t : ℕ) → On (axis_of x) s.processor t → Placed s t
unfolding owns_on owns_at
placed x ok s i t on = record {
  accepted = record { whole = x; none = ok; share = i.share; processor = i.processor };
  below = omega (arith, on.0, counts x ok s i);
  owned =
      ap (λ (h : Share). owned_by h t) i.share ∙ sym (owned-by x ok s.processor t on.0) ∙ on.1;
}

-- ---- where a fill that goes on stands

module _ {p : RowPlan} {at : Three Position} {long quota n : ℕ} (b : Begun p at long quota n) where
  -- of whatever section it is
  pub going-in : (x : GridSection) → PlanOf p x → at.third.0 < (axis_of (sections_of x).third).count
  going-in x o = omega (arith, b.going, counts (sections_of x).third (third-yes x o.accepted) p.shares.third o.third)

  abbrev going : at.third.0 < (axis_of (sections_of b.source).third).count
  going = going-in b.source b.planned

  pub first-placed : Placed p.shares.first at.first.0
  first-placed = placed (sections_of b.source).first (first-yes b.source b.planned.accepted) p.shares.first b.planned.first at.first.0 (b.stands.first going)

  pub second-placed : Placed p.shares.second at.second.0
  second-placed =
      placed (sections_of b.source).second (second-yes b.source b.planned.accepted) p.shares.second b.planned.second at.second.0 (b.stands.second going)

  pub third-placed : Placed p.shares.third at.third.0
  third-placed = placed (sections_of b.source).third (third-yes b.source b.planned.accepted) p.shares.third b.planned.third at.third.0 (b.stands.third going)

-- ---- the turn

module _ (x : GridSection) (p : RowPlan) (o : PlanOf p x) (at : Three Position) (st : Standing x p at) (v : at.third.0 < (axis_of (sections_of x).third).count) where
  abbrev first : Axis
  first = axis_of (sections_of x).first

  abbrev second : Axis
  second = axis_of (sections_of x).second

  abbrev third : Axis
  third = axis_of (sections_of x).third

  abbrev row : ℕ
  row = paired second.count at.second.0 at.third.0

  -- how high the row lies in which the fill stands
  abbrev pub height_of : ℕ
  height_of = base_of x p o at.second.0 at.third.0 (st.second v) (st.third v)

  pub height-low : height_of < 2147483648
  height-low = base-low x p o at.second.0 at.third.0 (st.second v) (st.third v) at.first.0 (st.first v)

  -- the fill of the first dimension from the place
  module _ (quota : ℕ) (xs : List ℕ) where
    abbrev pub row_fill : Filled
    row_fill = fill_by (walk_on first) at.first.0 quota xs

    pub row_within : Within quota first.count row_fill
    row_within =
        fill-within (walk_on first) (cost-some (sections_of x).first) (cost-le (sections_of x).first)
        (bytes.next_le (sections_of x).first (first-yes x o.accepted)) at.first.0 quota xs (omega (arith, (st.first v).0))

    -- what it writes, and then that as high as the row lies
    pub row_written : Written xs row_fill
    unfolding address
    row_written =
        fill-written (walk_on first) (λ t h. omega (arith, address-low (sections_of x).first (first-yes x o.accepted) t h))
        (bytes.next_le (sections_of x).first (first-yes x o.accepted)) at.first.0 quota xs (omega (arith, (st.first v).0))

    top-written : Written xs (on_top height_of row_fill)
    unfolding address
    top-written =
        subst (Written xs) (fill-base height_of (walk_on first) at.first.0 quota xs)
        (fill-written (on_base height_of (walk_on first))
        (λ t h. omega (arith, address-low (sections_of x).first (first-yes x o.accepted) t h, height-low))
        (bytes.next_le (sections_of x).first (first-yes x o.accepted)) at.first.0 quota xs (omega (arith, (st.first v).0)))

    -- its place is one of the processor, if it is no end
    pub row_ends : row_fill.place < first.count → On first p.shares.first.processor row_fill.place
    row_ends h = (h, kept.1 h)
      where
        Owned : ℕ → Type 0
        Owned t = (t ≤ first.count) × (t < first.count → owns_on first p.shares.first.processor t ≡ true)

        kept : Owned row_fill.place
        kept =
            fill-keeps (walk_on first) Owned
            (λ t other own.
            let k : t < first.count = omega (arith, own.0) in
            let on : On first p.shares.first.processor t = (k, own.1 k) in
            (next_le first (first_walks x p o) p.shares.first.processor t on, λ l. (next-on first (first_walks x p o) p.shares.first.processor t on l).1))
            at.first.0 quota xs (omega (arith, (st.first v).0), λ l. (st.first v).1)

  module _ (quota n : ℕ) (least : 3 ≤ quota) (bs bs' part : List ℕ) (r : Report) (room : n < length bs / 4)
      (filled : ByteFilled (fill_by (on_base height_of (walk_on first)) at.first.0 quota (words_of 4 (drop (4 * n) bs))) (drop (4 * n) bs) part r)
      (whole : bs' ≡ take (4 * n) bs ++ part) (next up : ℕ) (in-plane : next ≡ second.next at.second.0) (in-planes : up ≡ third.next at.third.0) where
    abbrev xs : List ℕ
    xs = drop n (words_of 4 bs)

    abbrev g : Filled
    g = row_fill quota xs

    -- the entries of the row
    abbrev ys : List ℕ
    ys = take g.entries (on_top height_of g).list

    long : length ys ≡ g.entries
    long = length-take-le g.entries (on_top height_of g).list (omega (arith, (top-written quota xs).inside, (top-written quota xs).long))

    words : words_of 4 (drop (4 * n) bs) ≡ xs
    words = words-part bs n (omega arith)

    gave : ByteFilled (on_top height_of g) (drop (4 * n) bs) part r
    gave =
        subst (λ (f : Filled). ByteFilled f (drop (4 * n) bs) part r)
        (ap (fill_by (on_base height_of (walk_on first)) at.first.0 quota) words ∙ fill-base height_of (walk_on first) at.first.0 quota xs) filled

    room_for : n + g.entries ≤ length bs / 4
    room_for = omega (arith, (row_written quota xs).inside, length-drop n (words_of 4 bs), words-length 4 bs)

    stored : bs' ≡ store_entries bs n ys
    stored = whole ∙ ap (λ (l : List ℕ). take (4 * n) bs ++ l) gave.bytes ∙ stores-part bs n ys (omega (arith, long, room_for))

    put : Put (words_of 4 bs) (words_of 4 bs') n ys
    put = put-words bs bs' n ys stored (omega (arith, long, room_for)) (top-written quota xs).fit

    abbrev turn : Turn
    turn = turn_after p at next up r n height_of

    -- the place after the row's fill
    abbrev then : ℕ
    then = next_from first (rows second third) p.shares.first.processor row g.place

    same_count : p.shares.first.section.count ≡ first.count
    same_count = counts (sections_of x).first (first-yes x o.accepted) p.shares.first o.first

    goes : Goes (grid_walk x) (place_of x at) quota xs g.entries g.tries then (drop n (words_of 4 bs'))
    goes =
        subst (λ (t : ℕ). Goes (grid_walk x) t quota xs g.entries g.tries then (drop n (words_of 4 bs')))
        (rw (lt-ltb at.third.0 third.count v))
        (row_goes x p o at.second.0 at.third.0 (st.second v) (st.third v) at.first.0 quota n (words_of 4 bs) (words_of 4 bs') (on_top height_of g) (st.first v)
        (fill-base height_of (walk_on first) at.first.0 quota xs) long put)

    some : 0 < g.entries
    some =
        fill-some (walk_on first) at.first.0 quota xs (omega (arith, length-drop n (words_of 4 bs), words-length 4 bs))
        (λ e. omega (arith, (st.first v).0)) least

    -- what the turn says, for either end of the row's fill
    record Ends (t : Turn) : Type 0 where
      entries : t.entries ≡ g.entries
      tries : t.tries ≡ g.tries
      place : place_of x t.stand ≡ then
      stands : Standing x p t.stand
      known : Known x p bs' (n + g.entries) t.whole

    turned_by : (t : Turn) → Ends t → Turned x p at quota n bs bs' t
    turned_by t e = record {
      some = rw e.entries some;
      room = rw e.entries room_for;
      tries = rw e.tries (row_within quota xs).tries;
      stands = e.stands;
      goes = rw (e.entries, e.tries, e.place) goes;
      stored = rw e.entries (stored ∙ ap (store_entries bs n) (sym (rw long at put.front)));
      before = put.before;
      known = rw e.entries e.known;
    }

    inside : g.place < first.count → Ends (record { stand = record { first = r.place; second = at.second; third = at.third }; whole = None; entries = r.entries; tries = r.tries })
    inside h = record {
      entries = gave.entries;
      tries = gave.tries;
      place = rw (lt-ltb at.third.0 third.count v, gave.place, lt-ltb g.place first.count h);
      stands = record {
        within = st.within;
        first = λ l. rw gave.place (row_ends quota xs h);
        second = st.second;
        third = st.third;
      };
      known = tt;
    }

    ended : g.place ≡ first.count → Ends (record { stand = entering_at p next at.third.0 up; whole = then_some (eqb at.first.0 p.enter.0) (record { from = n; entries = r.entries; tries = r.tries; base = height_of }); entries = r.entries; tries = r.tries })
    ended e = record {
      entries = gave.entries;
      tries = gave.tries;
      place =
          (λ i. place_of x (entering_at p (in-plane i) at.third.0 up))
          ∙ sym (after-row x p o at.second.0 at.third.0 (st.second v) (st.third v) up in-planes)
          ∙ ap (next_from first (rows second third) p.shares.first.processor row) (sym e);
      stands =
          subst (λ (u : ℕ). Standing x p (entering_at p u at.third.0 up)) (sym in-plane)
          (after-stands x p o at.second.0 at.third.0 (st.second v) (st.third v) at.first.0 up (st.first v) in-planes);
      known = go (eqb at.first.0 p.enter.0) refl;
    }
      where
        go : (b : Bool) → eqb at.first.0 p.enter.0 ≡ b
            → Known x p bs' (n + g.entries) (then_some b (record { from = n; entries = r.entries; tries = r.tries; base = height_of }))
        go true i =
            rw (gave.entries, gave.tries)
            (whole-stored x p o at.first.0 (eqb-true at.first.0 p.enter.0 i) quota n height_of xs bs' height-low (st.first v) e
            (omega (arith, (row_written quota xs).inside, (row_written quota xs).long))
            ((rw long at put.front) ∙ on-top-front height_of g (omega (arith, (row_written quota xs).inside, (row_written quota xs).long))))
        go false i = tt

    pub row-turned : Turned x p at quota n bs bs' turn
    row-turned = go (ltb r.place.0 p.shares.first.section.count) refl
      where
        go : (b : Bool) → ltb r.place.0 p.shares.first.section.count ≡ b
            → Turned x p at quota n bs bs'
            (cond b
            (record { stand = record { first = r.place; second = at.second; third = at.third }; whole = None; entries = r.entries; tries = r.tries })
            (record { stand = entering_at p next at.third.0 up; whole = then_some (eqb at.first.0 p.enter.0) (record { from = n; entries = r.entries; tries = r.tries; base = height_of }); entries = r.entries; tries = r.tries }))
        go true i = turned_by _ (inside (omega (arith, ltb-true r.place.0 p.shares.first.section.count i, gave.place, same_count)))
        go false i =
            turned_by _ (ended (omega (arith, ltb-false r.place.0 p.shares.first.section.count i, gave.place, same_count, (row_within quota xs).place)))

-- ---- numbers that a turn multiplies

pub small_product : (a b : ℕ) → a ≤ 2147483647 → b ≤ 2147483647 → a * b ≤ 4611686014132420609
small_product a b h l = le_trans (mul-le-mul_left a l) (mul-le-mul_right 2147483647 h)

-- an address is low
pub step-low : (x : Section) → first_no (of_section x) ≡ 0 → (s : Share) → ShareIn x s → (t : ℕ) → On (axis_of x) s.processor t → (r : Step) → Stepped s t r
    → r.address.0 ≤ 2147483647
unfolding address
step-low x ok s i t on r step = omega (arith, (step x ok i.share).0, address-low x ok t on.0)

-- and so is the row's base
pub base-is : (x : GridSection) (p : RowPlan) (o : PlanOf p x) (at : Three Position) (st : Standing x p at) (v : at.third.0 < (axis_of (sections_of x).third).count)
    (r s : Step) → Stepped p.shares.second at.second.0 r → Stepped p.shares.third at.third.0 s
    → p.elements * (r.address.0 + p.rows * s.address.0) ≡ height_of x p o at st v
base-is x p o at st v r s row plane =
    let e = (row (sections_of x).second (second-yes x o.accepted) o.second.share).0 in
    let f = (plane (sections_of x).third (third-yes x o.accepted) o.third.share).0 in
    λ i. p.elements * (e i + p.rows * f i)
