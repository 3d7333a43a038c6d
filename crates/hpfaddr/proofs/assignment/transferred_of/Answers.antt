-- `transferred_of` meets its contract: what `transfers` answers and leaves is of the parameters, and its numbers fit the fields.
use mathlib.Core.Path.{refl, sym, ap, ◌∙◌, subst}
use Rattle.model.specs.Transfers.{transfers, lists_after}
use Rattle.transfer.specs.Answers.{lists_of}
use Rattle.hpfaddr.specs.Sizes.{TransferredFits}
use Rattle.hpfaddr.proofs.AnswerSizes.{transfers-small}
use Rattle.hpfaddr.proofs.ParameterLaws.{call-read}
use Rattle.hpfaddr.proofs.assignment.transferred_of.Goals as goal

pub fields_of-requires : goal.fields_of-requires
fields_of-requires c = subst TransferredFits (sym c.transfers.ensures.result_value) (transfers-small _)

pub returns-clause-fields : goal.returns-clause-fields
returns-clause-fields c =
    let call = call-read c.args.sender c.args.receiver c.ranges.sender c.ranges.receiver refl refl (lists_of c.args.positions.now c.args.sent.now c.args.received.now) in
    (c.fields_of.ensures ∙ c.transfers.ensures.result_value ∙ ap transfers call, c.transfers.ensures.received_after ∙ ap lists_after call)

pub returns-clause-transferred_fits : goal.returns-clause-transferred_fits
returns-clause-transferred_fits c = subst TransferredFits (sym (c.fields_of.ensures ∙ c.transfers.ensures.result_value)) (transfers-small _)
