-- `local_count` meets its contract.
use mathlib.Core.Path.{sym, ap, ◌∙◌}
use mir.Syntax.{w64}
use mir.ValLaws.{to_z-of_z}
use Rattle.model.specs.Mappings.{mapping_with}
use Rattle.model.proofs.RefusalLaws.{passed_on}
use Rattle.mapping.specs.Parts.{owner_for}
use Rattle.mapping.specs.Answers.{counted_as, local_count_in}
use Rattle.mapping.proofs.CallLaws.{listed_by, local-count-refused, local-count-by}
use Rattle.mapping.proofs.local_count.Goals as goal

pub returns-in_err-x-clause-result_value : goal.returns-in_err-x-clause-result_value
returns-in_err-x-clause-result_value c =
    ap counted_as (passed_on c.from_residual.result c.in_err-x.field-0.0 c.from_residual.ensures.1)
    ∙ local-count-refused (mapping_with c.args.m c.args.sizes.now) _ (sym c.in_err-x.ensures.value) c.args.processor

pub counted_in-requires-clause-listed : goal.counted_in-requires-clause-listed
counted_in-requires-clause-listed c = listed_by (mapping_with c.args.m c.args.sizes.now) _ (sym c.in_ok-x.ensures.value)

pub returns-clause-result_value : goal.returns-clause-result_value
returns-clause-result_value c =
    let m = mapping_with c.args.m c.args.sizes.now in
    let x = c.in_ok-x.x in
    c.counted_in.ensures.result_value
    ∙ (λ i. local_count_in (owner_for x.layout m.dealing) x.layout (to_z-of_z w64 c.args.processor c.ranges.processor i))
    ∙ local-count-by m _ (sym c.in_ok-x.ensures.value) c.args.processor
