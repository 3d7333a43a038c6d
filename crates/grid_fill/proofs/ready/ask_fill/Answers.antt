-- `ask_fill` meets its contract: each case of the answer to the questions about the section has its law.
use mathlib.Core.Path.{sym, ap, ◌∙◌}
use mir.Syntax.{w64}
use mir.ValLaws.{to_z-of_z}
use Rattle.model.specs.Refusals.{by_number}
use Rattle.model.proofs.RefusalLaws.{passed_on}
use Rattle.grid_section.proofs.CallAnswers.{passed, listed}
use Rattle.grid_fill.specs.Ready.{ready_in}
use Rattle.grid_fill.proofs.ReadyLaws.{ready_by_lem, ready_refused}
use Rattle.grid_fill.proofs.ready.ask_fill.Goals as goal

pub returns-in_err-y : goal.returns-in_err-y
returns-in_err-y c =
    ap by_number (passed_on c.from_residual.result c.in_err-y.field-0.0 c.from_residual.ensures.1)
    ∙ ready_refused c.args.x c.args.sizes.first.now c.args.sizes.second.now c.args.sizes.third.now c.args.processor c.args.place c.args.quota _ (sym c.in_err-y.ensures.value)

pub ready_in-requires : goal.ready_in-requires
ready_in-requires c = (
  c.in_ok-y.ensures.sound,
  listed _ _ _ _ (passed c.args.x c.args.sizes.first.now c.args.sizes.second.now c.args.sizes.third.now _ (sym c.in_ok-y.ensures.value)),
)

pub returns : goal.returns
returns c =
    let q = to_z-of_z w64 c.args.processor c.ranges.processor in
    let t = to_z-of_z w64 c.args.place c.ranges.place in
    let z = to_z-of_z w64 c.args.quota c.ranges.quota in
    c.ready_in.ensures
    ∙ (λ i. ready_in c.in_ok-y.y c.args.sizes.first.now c.args.sizes.second.now c.args.sizes.third.now (q i) (t i) (z i))
    ∙ ready_by_lem c.args.x c.args.sizes.first.now c.args.sizes.second.now c.args.sizes.third.now c.args.processor c.args.place c.args.quota c.in_ok-y.y (sym c.in_ok-y.ensures.value)
