-- `moves_by` meets its contract.
use Rattle.fill.specs.SectionMoves.{moves_by}
use Rattle.fill.proofs.plan.moves_by.Goals as goal

pub returns-in-NoStep : goal.returns-in-NoStep
unfolding moves_by
returns-in-NoStep c = rw c.in-NoStep.is

pub returns-in-OneStep : goal.returns-in-OneStep
unfolding moves_by
returns-in-OneStep c = rw c.in-OneStep.is

pub returns-in-TwoSteps : goal.returns-in-TwoSteps
unfolding moves_by
returns-in-TwoSteps c = rw c.in-TwoSteps.is
