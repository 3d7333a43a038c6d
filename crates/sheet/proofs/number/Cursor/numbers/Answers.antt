-- `numbers` meets its contract. The invariant: the numbers read so far stand in the first rows, and they and those still to
-- be read are all that is read.
use borrow.Author.Rules.{rules}
use mathlib.Core.Path.{◌≡◌}
use native.Mathlib.Omega.{arith}
use mir.Syntax.{w64}
use mir.Val.{to_z, of_z}
use Rattle.sheet.proofs.RowLaws.{one-read}
use Rattle.sheet.proofs.LineLaws.{line_read}
use Rattle.sheet.proofs.number.Cursor.numbers.Goals as goal

pub loop-i-preserved : goal.loop-i-preserved
loop-i-preserved c =
    let z : to_z w64 (of_z w64 c.in_ok-z.z) ≡ c.in_ok-z.z = search rules in
    rw z (one-read _ _ _ _ c.loop-i.invariant (omega arith) c.requires (rw c.end_by.ensures at c.in_ok-z.ensures))

pub returns : goal.returns
returns c = rw c.line_of.ensures (line_read _ c.loop-i.invariant c.loop-i-test.false)
