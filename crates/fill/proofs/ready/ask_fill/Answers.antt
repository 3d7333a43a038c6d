-- `ask_fill` meets its contract: each case of the answer to questions 1 to 7 has its law.
use mathlib.Core.Path.{sym, ap, ◌∙◌}
use mir.Syntax.{w64}
use mir.ValLaws.{to_z-of_z}
use Rattle.model.specs.Mappings.{section_with}
use Rattle.model.specs.Refusals.{by_number}
use Rattle.model.proofs.RefusalLaws.{passed_on}
use Rattle.section.proofs.CallAnswers.{listed}
use Rattle.fill.specs.Ready.{ready_in}
use Rattle.fill.proofs.ReadyLaws.{ready_by_lem, ready_refused}
use Rattle.fill.proofs.ready.ask_fill.Goals as goal

pub returns-in_err-w-clause-value : goal.returns-in_err-w-clause-value
returns-in_err-w-clause-value c =
    ap by_number (passed_on c.from_residual.result c.in_err-w.field-0.0 c.from_residual.ensures.1)
    ∙ ready_refused (section_with c.args.x c.args.sizes.now) c.args.processor c.args.place c.args.quota _ (sym c.in_err-w.ensures.value)

pub ready_in-requires : goal.ready_in-requires
ready_in-requires c = (c.in_ok-w.ensures.sound, listed (section_with c.args.x c.args.sizes.now) _ (sym c.in_ok-w.ensures.value))

pub returns-clause-value : goal.returns-clause-value
returns-clause-value c =
    let x = section_with c.args.x c.args.sizes.now in
    let q = to_z-of_z w64 c.args.processor c.ranges.processor in
    let t = to_z-of_z w64 c.args.place c.ranges.place in
    let z = to_z-of_z w64 c.args.quota c.ranges.quota in
    c.ready_in.ensures.value ∙ (λ i. ready_in c.in_ok-w.w x.mapping.dealing (q i) (t i) (z i))
    ∙ ready_by_lem x c.args.processor c.args.place c.args.quota c.in_ok-w.w (sym c.in_ok-w.ensures.value)
