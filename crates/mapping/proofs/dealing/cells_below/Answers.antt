-- `cells_below` meets its contract: it is the law of a processor's cells, and no number on the way is above c. Assumes nothing.
use native.Mathlib.Omega.{arith}
use Rattle.mapping.proofs.CellLaws.{cells-below}
use Rattle.mapping.proofs.dealing.cells_below.Goals as goal

pub returns : goal.returns
returns c = omega (arith, cells-below _ _ c.requires c.args.c.0, c.share.ensures)
