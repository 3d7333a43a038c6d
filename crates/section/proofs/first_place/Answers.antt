-- `first_place` meets its contract: either answer to questions 1 to 7 has its law.
use mathlib.Core.Path.{sym, ap, ◌∙◌}
use mir.Syntax.{w64}
use mir.ValLaws.{to_z-of_z}
use Rattle.model.specs.Mappings.{section_with}
use Rattle.model.proofs.RefusalLaws.{passed_on}
use Rattle.section.specs.Answers.{placed_as, first_place_in}
use Rattle.section.proofs.CallAnswers.{listed, place-by, place-refused}
use Rattle.section.proofs.first_place.Goals as goal

pub returns-in_err-w-clause-result_value : goal.returns-in_err-w-clause-result_value
returns-in_err-w-clause-result_value c =
    ap placed_as (passed_on c.from_residual.result c.in_err-w.field-0.0 c.from_residual.ensures.1)
    ∙ place-refused (section_with c.args.x c.args.sizes.now) c.args.processor _ (sym c.in_err-w.ensures.value)

pub placed_in-requires : goal.placed_in-requires
placed_in-requires c = (
  c.in_ok-w.ensures.sound,
  listed (section_with c.args.x c.args.sizes.now) _ (sym c.in_ok-w.ensures.value),
)

pub returns-clause-result_value : goal.returns-clause-result_value
returns-clause-result_value c =
    let x = section_with c.args.x c.args.sizes.now in
    let read = to_z-of_z w64 c.args.processor c.ranges.processor in
    c.placed_in.ensures.result_value ∙ ap (first_place_in c.in_ok-w.w x.mapping.dealing) read
    ∙ place-by x c.args.processor c.in_ok-w.w (sym c.in_ok-w.ensures.value)
