-- `run_steps` meets its contract.
use borrow.Author.Tests.{lt-ltb, le-ltb}
use Rattle.model.specs.Steps.{run_steps}
use Rattle.section.proofs.steps.run_steps.Goals as goal

pub returns-then-w-lt2 : goal.returns-then-w-lt2
unfolding run_steps
returns-then-w-lt2 c = rw (lt-ltb _ _ c.if-w-lt2.true)

pub returns : goal.returns
unfolding run_steps
returns c = rw (le-ltb _ _ c.if-w-lt2.false) (cc c.spread_of-s.ensures)
