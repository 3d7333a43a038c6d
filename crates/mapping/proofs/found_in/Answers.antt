-- `found_in` meets its contract.
use Prim.Native.Nat.{ℕ, ◌<◌}
use mathlib.Core.Path.{◌≡◌, sym, ap, subst, ◌∙◌}
use mathlib.Core.Bool.{Bool, true}
use native.Mathlib.Omega.{arith}
use lib.IntN.{ℤ, pos, ◌+ℤ◌}
use mir.Syntax.{w64}
use mir.Val.{SFits, to_z}
use mir.ValLaws.{to_z-of_z, to_z_pos}
use Rattle.numbers.proofs.Signed.{size-add, small-fits, back, read_of, fits-as, back_as}
use Rattle.model.specs.Mappings.{dealing_with}
use Rattle.model.specs.Ownership.{nat, held, back_to}
use Rattle.model.specs.Questions.{is_below}
use Rattle.model.proofs.AddressLaws.{rank-back}
use Rattle.mapping.specs.Answers.{going_back_in}
use Rattle.mapping.specs.Bounds.{Dealt}
use Rattle.mapping.specs.Parts.{owner_for}
use Rattle.mapping.proofs.Signs.{answered, answered-below}
use Rattle.mapping.proofs.PartLaws.{part-held, part-found}
use Rattle.mapping.proofs.found_in.Goals as goal
use Rattle.mapping.proofs.found_in.Goals.{After-element_in-i, After-elements_in-elements, After-is_below-2, After-natural-q, Else-not-is_below}

pub returns-then-not-is_below-clause-result_value : goal.returns-then-not-is_below-clause-result_value
unfolding going_back_in
returns-then-not-is_below-clause-result_value c =
    rw (answered (is_below (pos c.args.l.processors)) c.args.processor c.ranges.processor c.is_below.ensures c.if-not-is_below.true)

is-processor : (c : Else-not-is_below) → is_below (pos c.args.l.processors) c.args.processor ≡ true
is-processor c =
    answered (is_below (pos c.args.l.processors)) c.args.processor c.ranges.processor c.is_below.ensures c.if-not-is_below.false

dealt : (c : After-natural-q) → Dealt c.args.l c.natural-q.result
dealt c = record {
  sized = c.requires.ranged.0;
  processor = answered-below _ _ c.ranges.processor c.natural-q.ensures c.is_below.ensures c.if-not-is_below.false;
}

pub part_of-part-requires-clause-dealt : goal.part_of-part-requires-clause-dealt
part_of-part-requires-clause-dealt c = dealt (goal.at.part_of-part-requires-clause-dealt c).After-natural-q

pub elements_in-elements-requires : goal.elements_in-elements-requires
elements_in-elements-requires c = (dealt (goal.at.elements_in-elements-requires c).After-natural-q, c.part_of-part.ensures.low)

-- what the processor has
abbrev owner : (c : After-elements_in-elements) → ℕ → ℕ
owner c = owner_for c.args.l (dealing_with c.args.d c.args.sizes.now)

elements : (c : After-elements_in-elements) → c.elements_in-elements.result ≡ held (owner c) c.args.l.size (nat c.args.processor)
elements c =
    part-held c.args.l c.requires.ranged.0 _ c.requires.listed c.natural-q.result c.elements_in-elements.ensures c.part_of-part.ensures.value
    ∙ ap (held (owner c) c.args.l.size) (read_of w64 nat c.args.processor c.ranges.processor c.natural-q.ensures)

-- the answer about the address, of what the definition counts
address-asked : (c : After-is_below-2) → c.elements_in-elements.result ≡ held (owner_for c.args.l (dealing_with c.args.d c.args.sizes.now)) c.args.l.size (nat c.args.processor)
    → {a : Bool} → c.is_below-2.result ≡ a
    → is_below (pos (held (owner_for c.args.l (dealing_with c.args.d c.args.sizes.now)) c.args.l.size (nat c.args.processor))) c.args.address ≡ a
address-asked c e t =
    sym (ap (λ (n : ℕ). is_below (pos n) c.args.address) e)
    ∙ answered (is_below (pos c.elements_in-elements.result)) c.args.address c.ranges.address c.is_below-2.ensures t

pub returns-then-not-is_below-2-clause-result_value : goal.returns-then-not-is_below-2-clause-result_value
unfolding going_back_in
returns-then-not-is_below-2-clause-result_value c =
    let at = goal.at.returns-then-not-is_below-2-clause-result_value c in
    rw (is-processor at.Else-not-is_below, address-asked at.After-is_below-2 (elements at.After-elements_in-elements) c.if-not-is_below-2.true)

pub element_in-i-requires : goal.element_in-i-requires
element_in-i-requires c = (
  dealt (goal.at.element_in-i-requires c).After-natural-q,
  c.part_of-part.ensures.low,
  subst (λ (n : ℕ). c.natural.result < n) c.elements_in-elements.ensures
      (answered-below _ _ c.ranges.address c.natural.ensures c.is_below-2.ensures c.if-not-is_below-2.false),
)

-- the element's index: from 0, and as it is declared
index : (c : After-element_in-i) → ℤ
index c = c.args.lower +ℤ pos c.element_in-i.result.0

stored : (c : After-element_in-i) → c.natural.result < c.elements_in-elements.result
stored c = answered-below _ _ c.ranges.address c.natural.ensures c.is_below-2.ensures c.if-not-is_below-2.false

found : (c : After-element_in-i)
    → c.element_in-i.result.0 ≡ back_to (owner_for c.args.l (dealing_with c.args.d c.args.sizes.now)) c.args.l.size c.natural-q.result c.natural.result
found c =
    part-found c.args.l c.requires.ranged.0 _ c.requires.listed c.natural-q.result c.elements_in-elements.ensures c.part_of-part.ensures.value (stored c) c.element_in-i.ensures

low : (c : After-element_in-i) → c.element_in-i.result.0 < 2147483648
low c =
    let d = dealing_with c.args.d c.args.sizes.now in
    let holds = part-held c.args.l c.requires.ranged.0 d c.requires.listed c.natural-q.result c.elements_in-elements.ensures c.part_of-part.ensures.value in
    omega (
      arith,
      found c,
      (rank-back (owner_for c.args.l d) c.args.l.size c.natural-q.result c.natural.result
          (subst (λ (n : ℕ). c.natural.result < n) holds (stored c))).inside,
      c.requires.ranged.0.size-high,
    )

sum : (c : After-element_in-i) → back w64 c.args.lower +ℤ to_z w64 c.element_in-i.result.0 ≡ index c
unfolding index
sum c =
    λ i. to_z-of_z w64 c.args.lower c.ranges.lower i +ℤ to_z_pos w64 c.element_in-i.result.0 (omega (arith, low c)) i

index-fits : (c : After-element_in-i) → SFits w64 (index c)
unfolding index
index-fits c =
    small-fits w64 (index c) (omega (arith, low c, size-add c.args.lower (pos c.element_in-i.result.0), c.requires.ranged.1))

pub overflow_cast-j : goal.overflow_cast-j
overflow_cast-j c = small-fits w64 (pos c.element_in-i.result.0) (omega (arith, low (goal.at.overflow_cast-j c).After-element_in-i))

pub overflow_add-j : goal.overflow_add-j
unfolding index
overflow_add-j c = fits-as w64 (sum (goal.at.overflow_add-j c).After-element_in-i) (index-fits (goal.at.overflow_add-j c).After-element_in-i)

pub returns-clause-result_value : goal.returns-clause-result_value
unfolding going_back_in index
returns-clause-result_value c =
    let at = goal.at.returns-clause-result_value c in
    let q = read_of w64 nat c.args.processor c.ranges.processor c.natural-q.ensures in
    let x = read_of w64 nat c.args.address c.ranges.address c.natural.ensures in
    let asked = address-asked at.After-is_below-2 (elements at.After-elements_in-elements) c.if-not-is_below-2.false in
    rw (is-processor at.Else-not-is_below, asked, back_as w64 (sum at.After-element_in-i) (index-fits at.After-element_in-i))
    (cc (found at.After-element_in-i, q, x))
