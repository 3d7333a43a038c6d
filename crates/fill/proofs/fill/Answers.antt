-- `fill` meets its contract: each case of the answer to its questions has its law.
use mathlib.Core.Path.{sym, ap, ◌∙◌}
use Rattle.model.specs.Mappings.{section_with}
use Rattle.model.proofs.RefusalLaws.{passed_on}
use Rattle.fill.specs.Answers.{outcome_as}
use Rattle.fill.proofs.FillAnswers.{of-parameters, taken, fill_done, fill-refused}
use Rattle.fill.proofs.fill.Goals as goal

pub returns-in_err-s-clause-list_after : goal.returns-in_err-s-clause-list_after
returns-in_err-s-clause-list_after c =
    let x = section_with c.args.x c.args.sizes.now in
    let no = of-parameters x c.args.processor c.args.place c.args.quota c.ranges.processor c.ranges.place c.ranges.quota c.in_err-s.ensures.value in
    ap (λ r. outcome_as r c.args.list.now) (passed_on c.from_residual.result c.in_err-s.field-0.0 c.from_residual.ensures.1)
    ∙ fill-refused x c.args.processor c.args.place c.args.quota _ _ (sym no)

pub fill_from-requires : goal.fill_from-requires
fill_from-requires c =
    let x = section_with c.args.x c.args.sizes.now in
    let yes = of-parameters x c.args.processor c.args.place c.args.quota c.ranges.processor c.ranges.place c.ranges.quota c.in_ok-s.ensures.value in
    taken x c.args.processor c.args.place c.args.quota _ c.in_ok-s.ensures.sound_ready (sym yes)

pub returns-clause-list_after : goal.returns-clause-list_after
returns-clause-list_after c =
    let x = section_with c.args.x c.args.sizes.now in
    let yes = of-parameters x c.args.processor c.args.place c.args.quota c.ranges.processor c.ranges.place c.ranges.quota c.in_ok-s.ensures.value in
    fill_done x c.args.processor c.args.place c.args.quota _ _ _ _ (sym yes) c.fill_from.ensures
