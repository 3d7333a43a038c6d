-- `entering` meets its contract.
use borrow.Author.Tests.{lt-ltb, le-ltb}
use Rattle.grid_fill.proofs.rows.entering.Goals as goal

pub returns-then-second-count : goal.returns-then-second-count
returns-then-second-count c = rw (lt-ltb _ _ c.if-second-count.true)

pub returns : goal.returns
returns c = rw (le-ltb _ _ c.if-second-count.false)
