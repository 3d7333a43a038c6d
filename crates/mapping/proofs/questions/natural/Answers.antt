-- `natural` meets its contract.
use mir.Syntax.{w64}
use mir.ValLaws.{to_z-of_z}
use Rattle.mapping.proofs.Signs.{below, kept}
use Rattle.mapping.proofs.questions.natural.Goals as goal

pub returns-then-x-lt0 : goal.returns-then-x-lt0
returns-then-x-lt0 c = below c.args.x (rw (to_z-of_z w64 c.args.x c.ranges.x) at c.if-x-lt0.true)

pub returns : goal.returns
returns c =
    rw (to_z-of_z w64 c.args.x c.ranges.x)
    (kept c.args.x (rw (to_z-of_z w64 c.args.x c.ranges.x) at c.if-x-lt0.false))
