-- `section_steps` meets its contract: either answer to the questions has its law.
use Rattle.std.proofs.Common.{sym, ap, ◌∙◌}
use Rattle.model.proofs.RefusalLaws.{told-apart, passed_on}
use Rattle.grid_section.specs.Answers.{steps_as}
use Rattle.grid_section.proofs.CallAnswers.{steps-by, steps-refused}
use Rattle.grid_section.proofs.section_steps.Goals as goal

pub returns-in_err-s : goal.returns-in_err-s
returns-in_err-s c = record {
  result_value = ap steps_as (passed_on c.from_residual.result c.in_err-s.field-0.0 c.from_residual.ensures.1)
      ∙ steps-refused c.args.x c.args.sizes.first.now c.args.sizes.second.now c.args.sizes.third.now _ (sym c.in_err-s.ensures.value);
  told_apart = told-apart c.from_residual.result;
}

pub steps_on-requires : goal.steps_on-requires
steps_on-requires c = c.in_ok-s.ensures.sound

pub returns : goal.returns
returns c = record {
  result_value = c.steps_on.ensures ∙ steps-by c.args.x c.args.sizes.first.now c.args.sizes.second.now c.args.sizes.third.now _ (sym c.in_ok-s.ensures.value);
  told_apart = tt;
}
