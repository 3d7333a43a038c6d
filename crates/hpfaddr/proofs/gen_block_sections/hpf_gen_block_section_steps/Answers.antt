-- `hpf_gen_block_section_steps` meets its contract: what `steps_of` promises, of the parameters.
use mathlib.Core.Path.{refl, ap, ◌∙◌}
use Rattle.model.specs.Calls.{section_steps}
use Rattle.hpfaddr.proofs.ParameterLaws.{mapping-read, section-read}
use Rattle.hpfaddr.proofs.gen_block_sections.hpf_gen_block_section_steps.Goals as goal

pub returns-clause-result_value : goal.returns-clause-result_value
returns-clause-result_value c = c.steps_of.ensures.result_value ∙ ap section_steps (section-read c.args.sizes.now _ _ _ c.ranges.lower c.ranges.upper c.ranges.step (mapping-read _ _ _ _ _ _ _ c.ranges.cells c.ranges.processors c.ranges.stride c.ranges.offset c.ranges.size c.ranges.array_lower c.ranges.template_lower c.args.sizes.now refl c.mapping_of-m.ensures) c.section_of-x.ensures)
