-- `line_front` meets its contract.
use Rattle.print.proofs.PutLaws.{then}
use Rattle.print.proofs.lines.line_front.Goals as goal

pub returns : goal.returns
returns c = then c.put_number-at.ensures (then c.put_next-after.ensures c.put_next.ensures)
