-- `hpf_transfers_between` meets its contract: what `transferred_of` promises, of the parameters.
use mathlib.Core.Path.{ap, ◌∙◌}
use Rattle.model.specs.Transfers.{transfers, lists_after}
use Rattle.transfer.specs.Answers.{lists_of}
use Rattle.hpfaddr.proofs.ParameterLaws.{mapping-read, section-read, number_read, call-read}
use Rattle.hpfaddr.proofs.between.hpf_transfers_between.Goals as goal

pub returns-clause-fields : goal.returns-clause-fields
returns-clause-fields c =
    let call =
    call-read c.args.sender c.args.receiver c.ranges.sender c.ranges.receiver
    (section-read c.args.left_sizes.now _ _ _ c.ranges.left_lower c.ranges.left_upper c.ranges.left_step (mapping-read _ _ _ _ _ _ _ c.ranges.left_cells c.ranges.left_processors c.ranges.left_stride c.ranges.left_offset c.ranges.left_size c.ranges.left_array_lower c.ranges.left_template_lower c.args.left_sizes.now (number_read _ _ c.ranges.left_dealing c.ranges.left_block c.dealing_of-left_way.ensures c.args.left_sizes.now) c.mapping_of-left_mapping.ensures) c.section_of-left.ensures)
    (section-read c.args.right_sizes.now _ _ _ c.ranges.right_lower c.ranges.right_upper c.ranges.right_step (mapping-read _ _ _ _ _ _ _ c.ranges.right_cells c.ranges.right_processors c.ranges.right_stride c.ranges.right_offset c.ranges.right_size c.ranges.right_array_lower c.ranges.right_template_lower c.args.right_sizes.now (number_read _ _ c.ranges.right_dealing c.ranges.right_block c.dealing_of-right_way.ensures c.args.right_sizes.now) c.mapping_of-right_mapping.ensures) c.section_of-right.ensures)
    (lists_of c.args.positions.now c.args.sent.now c.args.received.now) in
    (c.transferred_of.ensures.fields.0 ∙ ap transfers call, c.transferred_of.ensures.fields.1 ∙ ap lists_after call)
