-- `hpf_gen_block_fill` meets its contract: what `filled_of` promises, of the parameters.
use mathlib.Core.Path.{refl, ap, ◌∙◌}
use Rattle.model.specs.ByteFills.{ByteFill, in_words, bytes_after}
use Rattle.model.specs.Calls.{fill}
use Rattle.fill.specs.Answers.{report_of}
use Rattle.hpfaddr.proofs.ParameterLaws.{mapping-read, section-read, fill-read}
use Rattle.hpfaddr.proofs.gen_block_sections.hpf_gen_block_fill.Goals as goal

pub returns-clause-fields : goal.returns-clause-fields
returns-clause-fields c =
    let call = fill-read _ _ _ c.ranges.processor c.ranges.place c.ranges.quota (section-read c.args.sizes.now _ _ _ c.ranges.lower c.ranges.upper c.ranges.step (mapping-read _ _ _ _ _ _ _ c.ranges.cells c.ranges.processors c.ranges.stride c.ranges.offset c.ranges.size c.ranges.array_lower c.ranges.template_lower c.args.sizes.now refl c.mapping_of-m.ensures) c.section_of-x.ensures) c.args.list.now in
    (c.filled_of.ensures.fields.0 ∙ ap (λ (c : ByteFill). report_of (fill (in_words c))) call, c.filled_of.ensures.fields.1 ∙ ap bytes_after call)
