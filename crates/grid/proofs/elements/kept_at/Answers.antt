-- `kept_at` meets its contract.
use Rattle.std.proofs.Common.{ℕ, ◌<◌, ◌≡◌, true, List, ℤ, ◌-ℤ◌, nat_abs, sym, ap, subst, ◌∙◌, arith, rules}
use mir.Syntax.{w64}
use mir.Val.{SFits}
use mir.ValLaws.{to_z-of_z}
use Rattle.numbers.proofs.Signed.{small-fits, back, fits-as, back_as}
use Rattle.model.specs.Ownership.{nat, rank}
use Rattle.mapping.specs.Bounds.{Dealt}
use Rattle.mapping.specs.Parts.{held_in}
use Rattle.mapping.proofs.Signs.{bound-read}
use Rattle.grid.specs.declared.dimensions.Dimension.{Dimension}
use Rattle.grid.specs.Dimensions.{array_in, Known}
use Rattle.grid.specs.Answers.{has_index, from_lower_in}
use Rattle.grid.proofs.ThreeLaws.{held_of}
use Rattle.grid.proofs.DimensionLaws.{dealt, held-here, index_below}
use Rattle.grid.proofs.elements.kept_at.Goals as goal
use Rattle.grid.proofs.elements.kept_at.Goals.{After-home_of-home, After-natural}

-- an index of the array, from its first one on: the difference is not larger than the array
module _ (x : Dimension) (sizes : List ℕ) (k : Known x sizes) (j : ℤ) (fits : SFits w64 j) (e : has_index x j ≡ true) where
  taken : back w64 j -ℤ back w64 x.lower ≡ j -ℤ x.lower
  taken = λ i. to_z-of_z w64 j fits i -ℤ bound-read x.lower k.ranged.1 i

  from-fits : SFits w64 (j -ℤ x.lower)
  from-fits =
      let b = index_below x j e in
      small-fits w64 (j -ℤ x.lower) (omega (arith, ap nat_abs b.whole, b.below, k.ranged.0.size-high))

  counted : {r : ℕ} → r ≡ nat (back w64 (back w64 j -ℤ back w64 x.lower)) → r ≡ from_lower_in x j
  counted f = f ∙ ap nat (back_as w64 taken from-fits)

pub overflow_sub-index : goal.overflow_sub-index
overflow_sub-index c =
    let fits : SFits w64 c.args.index.0 = search rules in
    fits-as w64 (taken c.args.x c.args.sizes.now c.requires.known c.args.index.0 fits c.requires.index_value)
    (from-fits c.args.x c.args.sizes.now c.requires.known c.args.index.0 fits c.requires.index_value)

number : (c : After-natural) → c.natural.result ≡ from_lower_in c.args.x c.args.index.0
number c =
    let fits : SFits w64 c.args.index.0 = search rules in
    counted c.args.x c.args.sizes.now c.requires.known c.args.index.0 fits c.requires.index_value c.natural.ensures

index-lt : (c : After-natural) → c.natural.result < c.args.x.layout.size
index-lt c = omega (arith, number c, (index_below c.args.x c.args.index.0 c.requires.index_value).below)

pub home_of-home-requires : goal.home_of-home-requires
home_of-home-requires c = (c.requires.known.listed, c.requires.known.ranged.0, index-lt (goal.at.home_of-home-requires c).After-natural)

owner-dealt : (c : After-home_of-home) → c.natural.result < c.args.x.layout.size → Dealt c.args.x.layout c.home_of-home.result.processor
owner-dealt c l = record {
  sized = c.requires.known.ranged.0;
  processor = subst (λ (q : ℕ). q < c.args.x.layout.processors) (sym c.home_of-home.ensures.0)
      (dealt c.args.x c.args.sizes.now c.requires.known c.natural.result l);
}

pub part_of-part-requires : goal.part_of-part-requires
part_of-part-requires c =
    let at = goal.at.part_of-part-requires c in
    record { listed = c.requires.known.listed; dealt = owner-dealt at.After-home_of-home (index-lt at.After-natural) }

pub elements_in-requires : goal.elements_in-requires
elements_in-requires c =
    let at = goal.at.elements_in-requires c in
    (owner-dealt at.After-home_of-home (index-lt at.After-natural), c.part_of-part.ensures.low)

pub returns : goal.returns
returns c =
    let x = c.args.x in
    let array = array_in x c.args.sizes.now in
    let i = number (goal.at.returns c).After-natural in
    let owner = c.home_of-home.ensures.0 ∙ ap array.owner i in
    let address = c.home_of-home.ensures.1 ∙ ap (rank array.owner) i in
    let elements =
    c.elements_in.ensures ∙ ap (held_in x.layout c.home_of-home.result.processor) c.part_of-part.ensures.value
    ∙ held-here x c.args.sizes.now c.requires.known c.home_of-home.result.processor ∙ ap (held_of array) owner in
    λ t. record { processor = owner t; address = record { 0 = address t }; elements = elements t }
