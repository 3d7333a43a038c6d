-- `hpf_first_place` meets its contract: what `placed_of` promises, of the parameters.
use mathlib.Core.Path.{◌∙◌}
use mathlib.Core.List.{[]}
use mir.Syntax.{w64}
use mir.ValLaws.{to_z-of_z}
use Rattle.model.specs.Calls.{first_place_at}
use Rattle.hpfaddr.proofs.ParameterLaws.{mapping-read, section-read, cyclic-read}
use Rattle.hpfaddr.proofs.sections.hpf_first_place.Goals as goal

pub returns-clause-result_value : goal.returns-clause-result_value
returns-clause-result_value c = c.placed_of.ensures.result_value ∙ (λ i. first_place_at ((section-read [] _ _ _ c.ranges.lower c.ranges.upper c.ranges.step (mapping-read _ _ _ _ _ _ _ c.ranges.cells c.ranges.processors c.ranges.stride c.ranges.offset c.ranges.size c.ranges.array_lower c.ranges.template_lower [] (cyclic-read _ c.ranges.block []) c.mapping_of-m.ensures) c.section_of-x.ensures) i) (to_z-of_z w64 c.args.processor c.ranges.processor i))
