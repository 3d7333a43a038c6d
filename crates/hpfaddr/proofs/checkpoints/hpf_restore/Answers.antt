-- `hpf_restore` meets its contract: what `restored_of` promises, of the parameters.
use mathlib.Core.Path.{ap, ◌∙◌}
use mathlib.Core.List.{[]}
use Rattle.model.specs.Mappings.{Mapping}
use Rattle.model.specs.Checkpoints.{copy_of, copying, loaded}
use Rattle.hpfaddr.proofs.ParameterLaws.{mapping-read, cyclic-read}
use Rattle.hpfaddr.proofs.checkpoints.hpf_restore.Goals as goal

pub returns-clause-restore_fields : goal.returns-clause-restore_fields
returns-clause-restore_fields c =
    let call = ap (λ (m : Mapping). copy_of m c.args.saved.now c.args.storage.now) (mapping-read _ _ _ _ _ _ _ c.ranges.cells c.ranges.processors c.ranges.stride c.ranges.offset c.ranges.size c.ranges.array_lower c.ranges.template_lower [] (cyclic-read _ c.ranges.block []) c.mapping_of-m.ensures) in
    (c.restored_of.ensures.restore_fields.0 ∙ ap copying call, c.restored_of.ensures.restore_fields.1, c.restored_of.ensures.restore_fields.2 ∙ ap loaded call)
