-- What is left of a processor's list from a place on is the list without the elements before it.
use Prim.Native.Nat.{ℕ, ◌+◌, ◌*◌, ◌≤◌, ◌<◌}
use mathlib.Core.Path.{◌≡◌, sym, ◌∙◌, ap}
use mathlib.Core.Bool.{true}
use mathlib.Core.List.{List, [], ◌∷◌, map, map-append}
use native.Mathlib.Nat.{zero-add}
use native.Mathlib.Omega.{arith}
use lib.ListN.{length, take, drop, take-append-drop}
use Rattle.numbers.specs.Search.{tally, sum}
use Rattle.numbers.proofs.SearchLaws.{tally-none, tally-le, passing-length, sum-append}
use Rattle.model.specs.Mappings.{Section}
use Rattle.model.specs.declared.Position.{Position}
use Rattle.model.specs.Sections.{count, owns_at, places, first_place}
use Rattle.model.specs.Steps.{cost}
use Rattle.model.specs.Questions.{first_no, of_section}
use Rattle.model.specs.Calls.{walk_of}
use Rattle.model.specs.Demand3.{Leads}
use Rattle.model.proofs.Fronts.{Front, fronts}
use Rattle.model.proofs.InTurnLaws.{leads-drop}
use Rattle.model.proofs.SectionFills.{places-lead}
use Rattle.model.proofs.NeighbourLaws.{cost-le}
use Rattle.section.specs.Strides.{strided_of, Bounded, owned_at, place_in}
use Rattle.section.specs.Shares.{place_by, held_by}
use Rattle.section.proofs.StridedSections.{bounded}
use Rattle.section.proofs.ShareLaws.{place-by, held_by_lem}
use Rattle.print.specs.declared.fills.Listed.{Listed}
use Rattle.print.specs.declared.fills.Rest.{Rest}
use Rattle.print.specs.Ahead.{listed, Owner, ahead, rest_of, StandsIn}
use Rattle.print.proofs.ListedLaws.{in_blocks}

-- ---- a processor's list

module _ (x : Section) (q : ℕ) where
  front : (i : ℕ) → Front (owns_at x q) (count x) (drop i (places x q))
  unfolding places
  front i = fronts (owns_at x q) (count x) 0 i (count x) (zero-add (count x))

  module _ {r : Rest} (s : StandsIn x q r) where
    pub rest-is : rest_of x q r ≡ drop s.passed (places x q)
    unfolding ahead
    rest-is = rw s.place (front s.passed).same

    pub place-within : r.place.0 ≤ count x
    place-within = rw s.place (front s.passed).within

    pub place-owned : r.place.0 < count x → owns_at x q r.place.0 ≡ true
    place-owned h = rw s.place ((front s.passed).passes (rw s.place at h))

    pub left_is : r.left ≡ length (rest_of x q r)
    left_is = s.left ∙ ap length (sym rest-is)

  -- how many there are
  places_count : length (places x q) ≡ tally (owns_at x q) (count x)
  unfolding places
  places_count =
      omega (arith, passing-length (owns_at x q) (count x) 0, tally-none (owns_at x q), ap (tally (owns_at x q)) (zero-add (count x)))

  module _ (ok : first_no (of_section x) ≡ 0) where
    pub rest-leads : {r : Rest} → StandsIn x q r → Leads (walk_of x) r.place.0 (rest_of x q r)
    unfolding walk_of
    rest-leads s = rw (rest-is s, s.place) (leads-drop s.passed (places-lead x q ok))

    pub places-few : length (places x q) ≤ 2147483647
    unfolding strided_of
    places-few = omega (arith, places_count, tally-le (owns_at x q) (count x), (bounded x ok).count-high)

-- a list costs at most 3 tries an element
pub costs-few : (x : Section) (l : List ℕ) → sum (map (cost x) l) ≤ 3 * length l
unfolding sum
costs-few x [] = omega arith
costs-few x (t ∷ l) = omega (arith, cost-le x t, costs-few x l)

-- the places before and after
pub costs-split : (x : Section) (l : List ℕ) (n : ℕ) → sum (map (cost x) l) ≡ sum (map (cost x) (take n l)) + sum (map (cost x) (drop n l))
costs-split x l n =
    ap (λ (k : List ℕ). sum (map (cost x) k)) (sym (take-append-drop n l))
    ∙ ap sum (map-append (cost x) (take n l) (drop n l)) ∙ sum-append _ _

-- ---- the whole list

pub owner-bounded : (y : Listed) (q : ℕ) → Owner y q → Bounded y.strided × (q < y.strided.layout.processors)
unfolding strided_of
owner-bounded y q o =
    let f = o.fair in
    rw f.same (bounded (listed y) f.accepted, o.processor)

pub whole-stands : (y : Listed) (q : ℕ) → Owner y q → {p : Position} {n : ℕ} → p.0 ≡ place_in y.strided q
    → n ≡ tally (owned_at y.strided q) y.strided.count
    → (rest_of (listed y) q (record { place = p; left = n }) ≡ places (listed y) q) × StandsIn (listed y) q (record { place = p; left = n })
unfolding first_place
whole-stands y q o {p} {n} e d =
    let f = o.fair in
    let x = listed y in
    let share = in_blocks y f q in
    let s : StandsIn x q (record { place = p; left = n }) =
    record {
      passed = 0;
      place = e ∙ ap place_by share ∙ sym (place-by x f.accepted q);
      left = d ∙ ap held_by share ∙ sym (held_by_lem x f.accepted q) ∙ sym (places_count x q);
    } in
    (rest-is x q s, s)
