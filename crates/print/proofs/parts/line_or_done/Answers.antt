-- `line_or_done` meets its contract.
use mathlib.Core.Path.{refl}
use native.Mathlib.Omega.{arith}
use Rattle.print.proofs.PartLaws.{owner_of, no_lines}
use Rattle.print.proofs.parts.line_or_done.Goals as goal

pub returns-then-q-x : goal.returns-then-q-x
returns-then-q-x c = (refl, owner_of c.args.x c.requires c.args.q (omega (arith, c.if-q-x.true)))

pub returns-else-q-x : goal.returns-else-q-x
returns-else-q-x c = (no_lines c.args.x c.requires c.args.q (omega (arith, c.if-q-x.false)), tt)
