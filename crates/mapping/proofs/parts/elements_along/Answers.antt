-- `elements_along` meets its contract.
use native.Mathlib.Omega.{arith}
use Rattle.mapping.proofs.PartLaws.{cut-rises}
use Rattle.mapping.proofs.parts.elements_along.Goals as goal

pub overflow_sub-result : goal.overflow_sub-result
overflow_sub-result c = omega (arith, cut-rises c.args.l c.requires.0 c.args.r.start.0 c.args.r.end.0 c.requires.1, c.index_from-2.ensures, c.index_from.ensures)
