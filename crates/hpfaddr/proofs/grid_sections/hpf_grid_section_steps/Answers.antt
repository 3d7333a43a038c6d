-- `hpf_grid_section_steps` meets its contract: the numbers that `section_steps` answers fit the fields.
use mathlib.Core.Path.{sym, ◌∙◌, subst}
use Rattle.hpfaddr.specs.Sizes.{GridStepsFit}
use Rattle.hpfaddr.proofs.GridAnswerSizes.{grid-steps-small}
use Rattle.hpfaddr.proofs.grid_sections.hpf_grid_section_steps.Goals as goal

pub returns-clause-grid_steps_fit : goal.returns-clause-grid_steps_fit
returns-clause-grid_steps_fit c = subst GridStepsFit (sym (c.from.ensures ∙ c.section_steps.ensures.result_value)) (grid-steps-small _)
