-- `hpf_going_back` meets its contract: what `found_of` promises, of the parameters.
use mathlib.Core.Path.{◌∙◌}
use mathlib.Core.List.{[]}
use mir.Syntax.{w64}
use mir.ValLaws.{to_z-of_z}
use Rattle.model.specs.Calls.{going_back}
use Rattle.hpfaddr.proofs.ParameterLaws.{mapping-read, cyclic-read}
use Rattle.hpfaddr.proofs.hpf_going_back.Goals as goal

pub returns-clause-result_value : goal.returns-clause-result_value
returns-clause-result_value c = c.found_of.ensures.result_value ∙ (λ i. going_back ((mapping-read _ _ _ _ _ _ _ c.ranges.cells c.ranges.processors c.ranges.stride c.ranges.offset c.ranges.size c.ranges.array_lower c.ranges.template_lower [] (cyclic-read _ c.ranges.block []) c.mapping_of-m.ensures) i) (to_z-of_z w64 c.args.processor c.ranges.processor i) (to_z-of_z w64 c.args.address c.ranges.address i))
