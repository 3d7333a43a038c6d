-- A row that stands whole in the list: what was written from a processor's first place to the row's end is one, it stays one when more
-- is put after it, and put again it is the row of another base. Assumes nothing.
use Prim.Native.Nat.{ℕ, ◌+◌, ◌-◌, ◌%◌, ◌≤◌, ◌<◌}
use mathlib.Core.Path.{◌≡◌, refl, sym, ap, ◌∙◌}
use mathlib.Core.List.{List, [], ◌∷◌, ◌++◌, map}
use native.Mathlib.Nat.{add-mod-mod}
use native.Mathlib.Omega.{arith}
use lib.ListN.{length, take, drop}
use lib.Seq.{length-take-le, take_at, drop_at, take-add, take-take}
use Rattle.numbers.specs.Words.{words_of}
use Rattle.numbers.proofs.Division.{rest-is}
use Rattle.model.specs.Sections.{address}
use Rattle.model.specs.Filling.{on_base, Filled, fill_by}
use Rattle.model.specs.Calls.{walk_of}
use Rattle.model.specs.Axes.{Axis, axis_of, walk_on}
use Rattle.model.specs.Grids.{GridSection, sections_of}
use Rattle.model.proofs.NeighbourLaws.{cost-some}
use Rattle.model.proofs.ByteFillsHold.{address-low, next_le}
use Rattle.model.proofs.GridAccepted.{first-yes}
use Rattle.grid_fill.specs.Entries.{higher, AllLow}
use Rattle.grid_fill.specs.declared.rows.RowPlan.{RowPlan}
use Rattle.grid_fill.specs.declared.turns.Whole.{Whole}
use Rattle.grid_fill.specs.Rows.{PlanOf, On, Stored}
use Rattle.grid_fill.proofs.BaseFills.{on_top, fill-base, again}
use Rattle.grid_fill.proofs.ShareFills.{fill-low}

-- ---- lists

-- a part that lies before entry n
pub part_same : (ws ws' : List ℕ) (n from e : ℕ) → from + e ≤ n → n ≤ length ws → length ws' ≡ length ws → take n ws' ≡ take n ws
    → take e (drop from ws') ≡ take e (drop from ws)
part_same ws ws' n from e h l long same = part ws' (omega arith) ∙ ap (drop from) front ∙ sym (part ws (omega arith))
  where
    part : (l : List ℕ) → from ≤ length l → take e (drop from l) ≡ drop from (take (from + e) l)
    part l k = sym (ap (drop from) (take-add from e l) ∙ drop_at (take from l) (take e (drop from l)) from (length-take-le from l k))

    front : take (from + e) ws' ≡ take (from + e) ws
    front = sym (take-take (from + e) n ws' h) ∙ ap (take (from + e)) same ∙ take-take (from + e) n ws h

-- from one base to another, modulo 2^32
pub rebased : (from to : ℕ) → from < 2147483648 → to < 2147483648 → (zs : List ℕ) → AllLow zs
    → higher ((to + (4294967296 - from)) % 4294967296) (map (λ (z : ℕ). from + z) zs) ≡ map (λ (z : ℕ). to + z) zs
rebased from to h l [] low = refl
rebased from to h l (z ∷ zs) low =
    let y : ℕ = to + (4294967296 - from) in
    let e : (from + z + y % 4294967296) % 4294967296 ≡ to + z =
    add-mod-mod (from + z) y 4294967296 ∙ rest-is 4294967296 1 (to + z) (from + z + y) (omega arith) (omega (arith, low.0)) in
    λ i. e i ∷ rebased from to h l zs low.1 i

-- ---- a whole row

module _ (x : GridSection) (p : RowPlan) (o : PlanOf p x) where
  abbrev first : Axis
  first = axis_of (sections_of x).first

  abbrev along : ℕ → ℕ → List ℕ → Filled
  along t quota l = fill_by (walk_on first) t quota l

  -- what was written from the first place to the row's end
  pub whole-stored : (t : ℕ) → t ≡ p.enter.0 → (quota n base : ℕ) (l bs : List ℕ) → base < 2147483648 → On first p.shares.first.processor t
      → let g : Filled = along t quota l in
      g.place ≡ first.count → g.entries ≤ length g.list
      → take g.entries (drop n (words_of 4 bs)) ≡ map (λ (z : ℕ). base + z) (take g.entries g.list)
      → Stored x p bs (n + g.entries) (record { from = n; entries = g.entries; tries = g.tries; base = base })
  unfolding walk_of address
  whole-stored t enters quota n base l bs low on end inside words =
      let g : Filled = along t quota l in
      let s = (sections_of x).first in
      record {
        before = omega arith;
        base = low;
        addresses = take g.entries g.list;
        long = length-take-le g.entries g.list inside;
        words = words;
        low = fill-low (walk_on first) (address-low s (first-yes x o.accepted)) (next_le s (first-yes x o.accepted)) t quota l (omega (arith, on.0));
        again = λ left k h room.
            ap (λ (u : ℕ). along u left k) (sym enters)
            ∙ again (walk_on first) refl (cost-some s) l t quota end left k h room
            ∙ ap (λ (u : ℕ). record { entries = g.entries; tries = g.tries; place = u; list = take g.entries g.list ++ drop g.entries k }) end;
      }

  module _ (bs : List ℕ) (n : ℕ) (w : Whole) (s : Stored x p bs n w) where
    -- it stays
    pub stored-stays : (bs' : List ℕ) (m : ℕ) → n ≤ m → n ≤ length (words_of 4 bs) → length (words_of 4 bs') ≡ length (words_of 4 bs)
        → take n (words_of 4 bs') ≡ take n (words_of 4 bs) → Stored x p bs' m w
    stored-stays bs' m h l long same = record {
      before = omega (arith, s.before);
      base = s.base;
      addresses = s.addresses;
      long = s.long;
      words = part_same (words_of 4 bs) (words_of 4 bs') n w.from w.entries s.before l long same ∙ s.words;
      low = s.low;
      again = s.again;
    }

    -- the fill of another row is as long and as dear, and its addresses lie as much higher as the row does
    pub again-on : (base quota : ℕ) (l : List ℕ) → w.tries + 2 ≤ quota → w.entries ≤ length l
        → fill_by (on_base base (walk_on first)) p.enter.0 quota l
        ≡ record { entries = w.entries; tries = w.tries; place = first.count; list = map (λ (z : ℕ). base + z) s.addresses ++ drop w.entries l }
    again-on base quota l h room =
        let front : take w.entries (s.addresses ++ drop w.entries l) ≡ s.addresses =
        take_at s.addresses (drop w.entries l) w.entries s.long in
        let rest : drop w.entries (s.addresses ++ drop w.entries l) ≡ drop w.entries l =
        drop_at s.addresses (drop w.entries l) w.entries s.long in
        fill-base base (walk_on first) p.enter.0 quota l
        ∙ ap (on_top base) (s.again quota l h room)
        ∙ (λ i. record { entries = w.entries; tries = w.tries; place = first.count; list = map (λ (z : ℕ). base + z) (front i) ++ rest i })

    pub put-again : (base : ℕ) → base < 2147483648
        → higher ((base + (4294967296 - w.base)) % 4294967296) (take w.entries (drop w.from (words_of 4 bs))) ≡ map (λ (z : ℕ). base + z) s.addresses
    put-again base h =
        ap (higher ((base + (4294967296 - w.base)) % 4294967296)) s.words ∙ rebased w.base base s.base h s.addresses s.low
