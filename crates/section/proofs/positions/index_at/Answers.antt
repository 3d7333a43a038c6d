-- `index_at` meets its contract.
use Rattle.section.specs.Strides.{index_at}
use Rattle.section.proofs.positions.index_at.Goals as goal

pub returns-then-w : goal.returns-then-w
unfolding index_at
returns-then-w c = rw c.if-w.true

pub returns : goal.returns
unfolding index_at
returns c = rw c.if-w.false
