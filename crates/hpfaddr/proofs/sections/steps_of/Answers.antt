-- `steps_of` meets its contract: the numbers that `section_steps` answers fit the fields.
use mathlib.Core.Path.{sym, ◌∙◌, subst}
use Rattle.hpfaddr.specs.Sizes.{StepsFit}
use Rattle.hpfaddr.proofs.AnswerSizes.{section-steps-small}
use Rattle.hpfaddr.proofs.sections.steps_of.Goals as goal

pub returns-in-Ok-clause-steps_fit : goal.returns-in-Ok-clause-steps_fit
returns-in-Ok-clause-steps_fit c = subst StepsFit (sym (c.from.ensures ∙ c.in-Ok.ensures.result_value)) (section-steps-small _)
