-- `section_piece` meets its contract.
use Rattle.print.proofs.PieceLaws.{no-piece, section-piece}
use Rattle.print.proofs.pieces.section_piece.Goals as goal

pub returns-then-content-j : goal.returns-then-content-j
returns-then-content-j c = no-piece c.args.content.now _ c.args.j c.if-content-j.true

pub returns : goal.returns
returns c = section-piece c.args.content.now _ c.args.j c.if-content-j.false (rw c.section_of.ensures at c.first_part-part.ensures)
