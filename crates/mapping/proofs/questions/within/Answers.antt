-- `within` meets its contract.
use mir.Syntax.{w64}
use mir.ValLaws.{to_z-of_z}
use Rattle.model.specs.Questions.{between}
use Rattle.mapping.proofs.questions.within.Goals as goal

pub returns-then-low-x : goal.returns-then-low-x
unfolding between
returns-then-low-x c =
    let x = to_z-of_z w64 c.args.x c.ranges.x in
    let low = to_z-of_z w64 c.args.low c.ranges.low in
    let high = to_z-of_z w64 c.args.high c.ranges.high in
    rw (x, high, rw (x, low) at c.if-low-x.true)

pub returns-else-low-x : goal.returns-else-low-x
unfolding between
returns-else-low-x c =
    let x = to_z-of_z w64 c.args.x c.ranges.x in
    let low = to_z-of_z w64 c.args.low c.ranges.low in
    rw (rw (x, low) at c.if-low-x.false) c.if-low-x.false
