-- `turn_after` meets its contract.
use borrow.Author.Tests.{lt-ltb, le-ltb}
use Rattle.grid_fill.proofs.turns.turn_after.Goals as goal

pub returns-then-place-p : goal.returns-then-place-p
returns-then-place-p c = rw (lt-ltb _ _ c.if-place-p.true)

pub returns : goal.returns
returns c = rw (le-ltb _ _ c.if-place-p.false, c.entering.ensures, c.then_some.ensures)
