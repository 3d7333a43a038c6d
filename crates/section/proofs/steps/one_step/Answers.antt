-- `one_step` meets its contract.
use Rattle.model.specs.Steps.{one_step}
use Rattle.section.proofs.steps.one_step.Goals as goal

pub returns : goal.returns
unfolding one_step
returns c = rw (← c.requires.0)
