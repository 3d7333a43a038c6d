-- `numbers` meets its contract. The invariant: the numbers read so far stand in the first rows, and they and those still to
-- be read are all that is read.
use Rattle.sheet.specs.Parts.{numbers}
use Rattle.sheet.proofs.LineLaws.{NumberRows}
use Rattle.sheet.proofs.number.Cursor.numbers.Given as goal

abbrev pub invariant-loop-i : goal.invariant-loop-i
invariant-loop-i l = NumberRows l.n (numbers l.n l.fn.self.rest.now) l.v l.next.rest.now l.i
