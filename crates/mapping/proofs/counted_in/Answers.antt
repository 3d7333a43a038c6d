-- `counted_in` meets its contract.
use mathlib.Core.Path.{◌≡◌}
use mathlib.Core.Bool.{true}
use lib.IntN.{pos}
use mir.Syntax.{w64}
use Rattle.numbers.proofs.Signed.{read_of}
use Rattle.model.specs.Mappings.{dealing_with}
use Rattle.model.specs.Ownership.{nat}
use Rattle.model.specs.Questions.{is_below}
use Rattle.mapping.specs.Answers.{local_count_in}
use Rattle.mapping.specs.Bounds.{Dealt}
use Rattle.mapping.proofs.Signs.{answered, answered-below}
use Rattle.mapping.proofs.PartLaws.{part-held}
use Rattle.mapping.proofs.counted_in.Goals as goal
use Rattle.mapping.proofs.counted_in.Goals.{After-natural-q, Else-not-is_below}

pub returns-then-not-is_below-clause-result_value : goal.returns-then-not-is_below-clause-result_value
unfolding local_count_in
returns-then-not-is_below-clause-result_value c =
    rw (answered (is_below (pos c.args.l.processors)) c.args.processor c.ranges.processor c.is_below.ensures c.if-not-is_below.true)

is-processor : (c : Else-not-is_below) → is_below (pos c.args.l.processors) c.args.processor ≡ true
is-processor c =
    answered (is_below (pos c.args.l.processors)) c.args.processor c.ranges.processor c.is_below.ensures c.if-not-is_below.false

dealt : (c : After-natural-q) → Dealt c.args.l c.natural-q.result
dealt c = record {
  sized = c.requires.sized;
  processor = answered-below _ _ c.ranges.processor c.natural-q.ensures c.is_below.ensures c.if-not-is_below.false;
}

pub part_of-part-requires-clause-dealt : goal.part_of-part-requires-clause-dealt
part_of-part-requires-clause-dealt c = dealt (goal.at.part_of-part-requires-clause-dealt c).After-natural-q

pub elements_in-requires : goal.elements_in-requires
elements_in-requires c = (dealt (goal.at.elements_in-requires c).After-natural-q, c.part_of-part.ensures.low)

pub returns-clause-result_value : goal.returns-clause-result_value
unfolding local_count_in
returns-clause-result_value c =
    let q = read_of w64 nat c.args.processor c.ranges.processor c.natural-q.ensures in
    let d = dealing_with c.args.d c.args.sizes.now in
    rw (is-processor (goal.at.returns-clause-result_value c).Else-not-is_below)
    (cc (part-held c.args.l c.requires.sized d c.requires.listed c.natural-q.result c.elements_in.ensures c.part_of-part.ensures.value, q))
