-- `hpf_checkpoint` meets its contract: what `saved_of` promises, of the parameters.
use mathlib.Core.Path.{ap, ◌∙◌}
use mathlib.Core.List.{[]}
use Rattle.model.specs.Mappings.{Mapping}
use Rattle.model.specs.Checkpoints.{copy_of, copying, saved}
use Rattle.hpfaddr.proofs.ParameterLaws.{mapping-read, cyclic-read}
use Rattle.hpfaddr.proofs.checkpoints.hpf_checkpoint.Goals as goal

pub returns-clause-checkpoint_fields : goal.returns-clause-checkpoint_fields
returns-clause-checkpoint_fields c =
    let call = ap (λ (m : Mapping). copy_of m c.args.storage.now c.args.saved.now) (mapping-read _ _ _ _ _ _ _ c.ranges.cells c.ranges.processors c.ranges.stride c.ranges.offset c.ranges.size c.ranges.array_lower c.ranges.template_lower [] (cyclic-read _ c.ranges.block []) c.mapping_of-m.ensures) in
    (c.saved_of.ensures.checkpoint_fields.0 ∙ ap copying call, c.saved_of.ensures.checkpoint_fields.1, c.saved_of.ensures.checkpoint_fields.2 ∙ ap saved call)
