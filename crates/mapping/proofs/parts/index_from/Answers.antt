-- `index_from` meets its contract.
use mathlib.Core.Path.{sym}
use Rattle.mapping.proofs.PartLaws.{cut-none}
use Rattle.mapping.proofs.parts.index_from.Goals as goal

pub returns-then-c-l : goal.returns-then-c-l
returns-then-c-l c = sym (cut-none c.args.l c.requires.0 c.args.c.0 c.if-c-l.true)
