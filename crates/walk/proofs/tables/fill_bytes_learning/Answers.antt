-- `fill_bytes_learning` meets its contract.
use Rattle.walk.proofs.OneEntry.{one_entry}
use Rattle.walk.proofs.tables.fill_bytes_learning.Goals as goal

pub returns-then-entries-le1 : goal.returns-then-entries-le1
returns-then-entries-le1 c = one_entry c.requires.0 c.requires.1 c.if-entries-le1.true c.fill_bytes.ensures
