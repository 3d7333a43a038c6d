-- `hpf_gen_block_first_place` meets its contract: what `placed_of` promises, of the parameters.
use mathlib.Core.Path.{refl, ◌∙◌}
use mir.Syntax.{w64}
use mir.ValLaws.{to_z-of_z}
use Rattle.model.specs.Calls.{first_place_at}
use Rattle.hpfaddr.proofs.ParameterLaws.{mapping-read, section-read}
use Rattle.hpfaddr.proofs.gen_block_sections.hpf_gen_block_first_place.Goals as goal

pub returns-clause-result_value : goal.returns-clause-result_value
returns-clause-result_value c = c.placed_of.ensures.result_value ∙ (λ i. first_place_at ((section-read c.args.sizes.now _ _ _ c.ranges.lower c.ranges.upper c.ranges.step (mapping-read _ _ _ _ _ _ _ c.ranges.cells c.ranges.processors c.ranges.stride c.ranges.offset c.ranges.size c.ranges.array_lower c.ranges.template_lower c.args.sizes.now refl c.mapping_of-m.ensures) c.section_of-x.ensures) i) (to_z-of_z w64 c.args.processor c.ranges.processor i))
