-- `element_along` meets its contract.
use native.Mathlib.Omega.{arith}
use Rattle.mapping.proofs.PartLaws.{cut-le}
use Rattle.mapping.proofs.parts.element_along.Goals as goal

pub overflow_add-i : goal.overflow_add-i
overflow_add-i c = omega (arith, c.index_from.ensures, c.requires.3, cut-le c.args.l c.requires.0 c.args.r.end.0, c.requires.0.size-high)
