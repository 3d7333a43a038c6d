-- `lines` meets its contract. The invariant: the lines read so far stand in the first rows, and they and those still to be
-- read are all that is read.
use native.Mathlib.Omega.{arith}
use Rattle.sheet.proofs.PartLaws.{part-most}
use Rattle.sheet.proofs.RowLaws.{one-read}
use Rattle.sheet.proofs.number.Cursor.lines.Goals as goal

pub loop-i-preserved : goal.loop-i-preserved
loop-i-preserved c =
    one-read _ _ _ _ c.loop-i.invariant (omega arith) (omega (arith, part-most c.args.kind)) c.in_ok-line.ensures
