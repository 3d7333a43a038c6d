-- `going_back` meets its contract.
use mathlib.Core.Path.{sym, ap, ◌∙◌}
use mir.Syntax.{w64}
use mir.ValLaws.{to_z-of_z}
use Rattle.model.specs.Mappings.{mapping_with}
use Rattle.model.proofs.RefusalLaws.{passed_on}
use Rattle.mapping.specs.Parts.{owner_for}
use Rattle.mapping.specs.Answers.{found_as, going_back_in}
use Rattle.mapping.proofs.Signs.{bound-read}
use Rattle.mapping.proofs.CallLaws.{listed_by, going-back-refused, going-back-by}
use Rattle.mapping.proofs.going_back.Goals as goal

pub returns-in_err-x-clause-result_value : goal.returns-in_err-x-clause-result_value
returns-in_err-x-clause-result_value c =
    ap found_as (passed_on c.from_residual.result c.in_err-x.field-0.0 c.from_residual.ensures.1)
    ∙ going-back-refused (mapping_with c.args.m c.args.sizes.now) _ (sym c.in_err-x.ensures.value) c.args.processor c.args.address

pub found_in-requires-clause-listed : goal.found_in-requires-clause-listed
found_in-requires-clause-listed c = listed_by (mapping_with c.args.m c.args.sizes.now) _ (sym c.in_ok-x.ensures.value)

pub returns-clause-result_value : goal.returns-clause-result_value
returns-clause-result_value c =
    let m = mapping_with c.args.m c.args.sizes.now in
    let x = c.in_ok-x.x in
    let lower = bound-read x.lower c.in_ok-x.ensures.sound.1 in
    c.found_in.ensures.result_value
    ∙ (λ i. going_back_in (owner_for x.layout m.dealing) x.layout (lower i) (to_z-of_z w64 c.args.processor c.ranges.processor i) (to_z-of_z w64 c.args.address c.ranges.address i))
    ∙ going-back-by m _ (sym c.in_ok-x.ensures.value) c.args.processor c.args.address
