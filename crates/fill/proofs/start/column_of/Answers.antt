-- `column_of` meets its contract.
use Rattle.model.specs.Ownership.{column_of}
use Rattle.fill.proofs.start.column_of.Goals as goal

pub returns-then-w : goal.returns-then-w
unfolding column_of
returns-then-w c = rw c.if-w.true

pub returns : goal.returns
unfolding column_of
returns c = rw c.if-w.false
