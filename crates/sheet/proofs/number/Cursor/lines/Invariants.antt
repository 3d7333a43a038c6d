-- `lines` meets its contract. The invariant: the lines read so far stand in the first rows, and they and those still to be
-- read are all that is read.
use Rattle.sheet.specs.Parts.{line, lines}
use Rattle.sheet.specs.Contents.{no_line}
use Rattle.sheet.proofs.RowLaws.{Filling}
use Rattle.sheet.proofs.number.Cursor.lines.Given as goal

abbrev pub invariant-loop-i : goal.invariant-loop-i
invariant-loop-i l = Filling no_line 64 (λ m. line l.kind) l.n (lines l.kind l.n l.fn.self.rest.now) l.rows l.next.rest.now l.i
