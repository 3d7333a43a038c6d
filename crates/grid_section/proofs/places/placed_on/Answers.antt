-- `placed_on` meets its contract: a processor that passes question 8 is one of the grid's.
use mathlib.Core.Path.{◌≡◌, sym, ap, ◌∙◌, subst}
use mathlib.Core.Bool.{true}
use native.Mathlib.Omega.{arith}
use lib.IntN.{pos}
use mir.Syntax.{w64}
use Rattle.numbers.proofs.Signed.{read_of}
use Rattle.model.specs.Ownership.{nat}
use Rattle.model.specs.Questions.{is_below}
use Rattle.mapping.proofs.Signs.{answered, below-natural}
use Rattle.grid_section.specs.Lines.{processors_on}
use Rattle.grid_section.specs.Shares.{shares_on, first_by, AllFitted}
use Rattle.grid_section.specs.Answers.{first_place_on}
use Rattle.grid_section.proofs.ShareLaws.{all-fitted}
use Rattle.grid_section.proofs.places.placed_on.Goals as goal
use Rattle.grid_section.proofs.places.placed_on.Goals.{After-natural}

pub returns-then-not-is_processor : goal.returns-then-not-is_processor
unfolding first_place_on
returns-then-not-is_processor c = record { result_value = rw (answered (is_below (pos (processors_on c.args.x))) c.args.processor c.ranges.processor c.is_processor.ensures c.if-not-is_processor.true); told_apart = (omega arith, tt) }

-- the processor is one of the grid's
holds : (c : After-natural) → is_below (pos (processors_on c.args.x)) c.args.processor ≡ true
holds c =
    answered (is_below (pos (processors_on c.args.x))) c.args.processor c.ranges.processor
    c.is_processor.ensures
    c.if-not-is_processor.false

number : (c : After-natural) → c.natural.result ≡ nat c.args.processor
number c =
    read_of w64 nat c.args.processor c.ranges.processor c.natural.ensures

pub shares_of-s-requires : goal.shares_of-s-requires
shares_of-s-requires c = (c.requires.0, c.requires.1, below-natural c.args.processor (processors_on c.args.x) c.ranges.processor c.natural.ensures (holds (goal.at.shares_of-s-requires c).After-natural))

pub first_on-requires : goal.first_on-requires
first_on-requires c =
    subst AllFitted (sym c.shares_of-s.ensures)
    (all-fitted c.args.x c.requires.0 c.args.sizes.first.now c.args.sizes.second.now c.args.sizes.third.now c.natural.result
    (below-natural c.args.processor (processors_on c.args.x) c.ranges.processor c.natural.ensures (holds (goal.at.first_on-requires c).After-natural)))

pub returns : goal.returns
unfolding first_place_on
returns c =
    let place =
    c.first_on.ensures ∙ ap first_by (c.shares_of-s.ensures ∙ ap (shares_on c.args.x c.args.sizes.first.now c.args.sizes.second.now c.args.sizes.third.now) (number (goal.at.returns c).After-natural)) in
    record { result_value = rw (holds (goal.at.returns c).After-natural) (λ i. record { refusal = 0; place = place i }); told_apart = tt }
