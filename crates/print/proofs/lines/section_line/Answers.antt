-- `section_line` meets its contract.
use Rattle.print.proofs.PutLaws.{then}
use Rattle.print.proofs.lines.section_line.Goals as goal

pub returns : goal.returns
returns c = then c.put_section-at.ensures (then c.put_next-end.ensures c.put_byte.ensures)
