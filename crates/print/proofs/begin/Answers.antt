-- `begin` meets its contract: the buffer is long enough for what was read to decide the print.
use native.Mathlib.Omega.{arith}
use Rattle.print.proofs.GivingLaws.{opens}
use Rattle.print.proofs.begin.Goals as goal

pub returns-clause-by_index : goal.returns-clause-by_index
returns-clause-by_index c = λ input h. opens input c.args.sheet.now c.args.n (omega (arith, c.requires.0)) h c.first_piece.ensures
