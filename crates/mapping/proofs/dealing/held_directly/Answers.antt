-- `held_directly` meets its contract: with stride 1 a processor's elements sit on its cells from the offset on. Assumes nothing.
use mathlib.Core.Path.{ap}
use native.Mathlib.Omega.{arith}
use Rattle.mapping.proofs.CellLaws.{cells, held-direct}
use Rattle.mapping.proofs.dealing.held_directly.Goals as goal

pub overflow_sub-result : goal.overflow_sub-result
overflow_sub-result c = omega (arith, held-direct _ _ c.requires.below.dealt c.requires.stride_value c.args.i.0, ap (cells c.args.l c.args.q) c.cell_of.ensures)

pub returns : goal.returns
returns c = omega (arith, held-direct _ _ c.requires.below.dealt c.requires.stride_value c.args.i.0, ap (cells c.args.l c.args.q) c.cell_of.ensures)
