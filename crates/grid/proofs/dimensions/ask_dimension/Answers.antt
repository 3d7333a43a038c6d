-- `ask_dimension` meets its contract.
use Rattle.std.proofs.Common.{Ok, sym, ap, ◌∙◌}
use Rattle.model.specs.Mappings.{mapping_with}
use Rattle.model.specs.Refusals.{by_number}
use Rattle.model.proofs.RefusalLaws.{passed_on}
use Rattle.mapping.proofs.Signs.{bound-read}
use Rattle.mapping.proofs.CallLaws as calls
use Rattle.grid.proofs.AskLaws.{asked_by, asked-refused}
use Rattle.grid.proofs.dimensions.ask_dimension.Goals as goal

pub returns-in_err-accepted : goal.returns-in_err-accepted
returns-in_err-accepted c =
    let stop = calls.stopped (mapping_with c.args.m c.args.sizes.now) _ (sym c.in_err-accepted.ensures.value) in
    ap by_number (passed_on c.from_residual.result c.in_err-accepted.field-0.0 c.from_residual.ensures.1)
    ∙ asked-refused c.args.m c.args.sizes.now _ stop.first stop.some

pub returns : goal.returns
returns c =
    let x = c.in_ok-accepted.accepted in
    let p = calls.passed (mapping_with c.args.m c.args.sizes.now) x (sym c.in_ok-accepted.ensures.value) in
    let lower = bound-read x.lower c.in_ok-accepted.ensures.sound.1 ∙ p.lower in
    (λ i. Ok (record { layout = p.layout i; lower = lower i; dealing = c.args.m.dealing })) ∙ asked_by c.args.m c.args.sizes.now p.none
