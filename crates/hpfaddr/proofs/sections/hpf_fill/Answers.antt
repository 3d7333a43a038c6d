-- `hpf_fill` meets its contract: what `filled_of` promises, of the parameters.
use mathlib.Core.Path.{ap, ◌∙◌}
use mathlib.Core.List.{[]}
use Rattle.model.specs.ByteFills.{ByteFill, in_words, bytes_after}
use Rattle.model.specs.Calls.{fill}
use Rattle.fill.specs.Answers.{report_of}
use Rattle.hpfaddr.proofs.ParameterLaws.{mapping-read, section-read, cyclic-read, fill-read}
use Rattle.hpfaddr.proofs.sections.hpf_fill.Goals as goal

pub returns-clause-fields : goal.returns-clause-fields
returns-clause-fields c =
    let call = fill-read _ _ _ c.ranges.processor c.ranges.place c.ranges.quota (section-read [] _ _ _ c.ranges.lower c.ranges.upper c.ranges.step (mapping-read _ _ _ _ _ _ _ c.ranges.cells c.ranges.processors c.ranges.stride c.ranges.offset c.ranges.size c.ranges.array_lower c.ranges.template_lower [] (cyclic-read _ c.ranges.block []) c.mapping_of-m.ensures) c.section_of-x.ensures) c.args.list.now in
    (c.filled_of.ensures.fields.0 ∙ ap (λ (c : ByteFill). report_of (fill (in_words c))) call, c.filled_of.ensures.fields.1 ∙ ap bytes_after call)
