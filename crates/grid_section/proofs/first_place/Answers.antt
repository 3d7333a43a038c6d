-- `first_place` meets its contract: either answer to the questions has its law.
use Rattle.std.proofs.Common.{sym, ap, ◌∙◌}
use mir.Syntax.{w64}
use mir.ValLaws.{to_z-of_z}
use Rattle.model.proofs.RefusalLaws.{told-apart, passed_on}
use Rattle.section.specs.Answers.{placed_as}
use Rattle.grid_section.specs.Answers.{first_place_on}
use Rattle.grid_section.proofs.CallAnswers.{passed, listed, place-by, place-refused}
use Rattle.grid_section.proofs.first_place.Goals as goal

pub returns-in_err-s : goal.returns-in_err-s
returns-in_err-s c = record {
  result_value = ap placed_as (passed_on c.from_residual.result c.in_err-s.field-0.0 c.from_residual.ensures.1)
      ∙ place-refused c.args.x c.args.sizes.first.now c.args.sizes.second.now c.args.sizes.third.now c.args.processor _ (sym c.in_err-s.ensures.value);
  told_apart = told-apart c.from_residual.result;
}

pub placed_on-requires : goal.placed_on-requires
placed_on-requires c = (
  c.in_ok-s.ensures.sound,
  listed _ _ _ _ (passed c.args.x c.args.sizes.first.now c.args.sizes.second.now c.args.sizes.third.now _ (sym c.in_ok-s.ensures.value)),
)

pub returns : goal.returns
returns c = record {
  result_value = c.placed_on.ensures.result_value
      ∙ ap (first_place_on c.in_ok-s.s c.args.sizes.first.now c.args.sizes.second.now c.args.sizes.third.now) (to_z-of_z w64 c.args.processor c.ranges.processor)
      ∙ place-by c.args.x c.args.sizes.first.now c.args.sizes.second.now c.args.sizes.third.now c.args.processor c.in_ok-s.s (sym c.in_ok-s.ensures.value);
  told_apart = c.placed_on.ensures.told_apart;
}
