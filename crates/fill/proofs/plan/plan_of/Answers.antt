-- `plan_of` meets its contract.
use mathlib.Core.Path.{sym, ◌∙◌}
use Rattle.fill.proofs.PlanLaws.{taken-bounded, ones-planned, none-planned}
use Rattle.fill.proofs.plan.plan_of.Goals as goal

pub steps_of-steps-requires : goal.steps_of-steps-requires
steps_of-steps-requires c = taken-bounded _ c.requires.0

pub returns-then-w-eq1 : goal.returns-then-w-eq1
returns-then-w-eq1 c = ones-planned c.args.w c.args.q c.if-w-eq1.true _ (sym c.steps_of-steps.ensures) _ c.onward_by.ensures _ c.same_plan.ensures

pub returns-in-NoStep : goal.returns-in-NoStep
returns-in-NoStep c = none-planned c.args.w c.args.q (sym c.steps_of-steps.ensures ∙ c.in-NoStep.is) _ c.same_plan-in-NoStep.ensures

pub returns-in-TwoSteps : goal.returns-in-TwoSteps
returns-in-TwoSteps c = c.two_plan.ensures _
