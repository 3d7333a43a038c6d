-- `transfers` meets its contract: each case of the answer about the pair has its law.
use Prim.Native.Nat.{ℕ}
use mathlib.Core.Path.{◌≡◌, sym, ap, ◌∙◌, subst}
use mir.Syntax.{w64}
use mir.ValLaws.{to_z-of_z}
use Rattle.std.specs.Prelude.{Result}
use Rattle.model.specs.declared.refusals.ListError.{ListError}
use Rattle.model.specs.Mappings.{section_with}
use Rattle.model.specs.Calls.{ToldApart}
use Rattle.model.specs.Refusals.{by_number}
use Rattle.transfer.specs.Pairs.{pair_asked}
use Rattle.transfer.specs.Answers.{lists_of, transferred_as, transferred_refusals}
use Rattle.transfer.proofs.PairAnswers.{pair_fits}
use Rattle.transfer.proofs.CallAnswers.{turned, answer-refused, lists-refused, answer-by, lists-by, told-by}
use Rattle.transfer.proofs.transfers.Goals as goal
use Rattle.transfer.proofs.transfers.Goals.{After-ask_pair}

answered : (c : After-ask_pair) → pair_asked (section_with c.args.left c.args.left_sizes.now) (section_with c.args.right c.args.right_sizes.now) c.args.sender c.args.receiver ≡ by_number c.ask_pair.result
answered c =
    sym (c.ask_pair.ensures
    ∙ (λ i. pair_asked (section_with c.args.left c.args.left_sizes.now) (section_with c.args.right c.args.right_sizes.now) (to_z-of_z w64 c.args.sender c.ranges.sender i) (to_z-of_z w64 c.args.receiver c.ranges.receiver i)))

pub returns-in_err-p-clause-result_value : goal.returns-in_err-p-clause-result_value
returns-in_err-p-clause-result_value c =
    let l = section_with c.args.left c.args.left_sizes.now in
    let r = section_with c.args.right c.args.right_sizes.now in
    let x = lists_of c.args.positions.now c.args.sent.now c.args.received.now in
    ap transferred_as (turned c.from_residual.result c.in_err-p.field-0.0 c.from_residual.ensures.1)
    ∙ answer-refused l r c.args.sender c.args.receiver x _ (answered (goal.at.returns-in_err-p-clause-result_value c).After-ask_pair ∙ ap by_number c.in_err-p.was)

pub returns-in_err-p-clause-received_after : goal.returns-in_err-p-clause-received_after
returns-in_err-p-clause-received_after c =
    let l = section_with c.args.left c.args.left_sizes.now in
    let r = section_with c.args.right c.args.right_sizes.now in
    let x = lists_of c.args.positions.now c.args.sent.now c.args.received.now in
    lists-refused l r c.args.sender c.args.receiver x _ (answered (goal.at.returns-in_err-p-clause-received_after c).After-ask_pair ∙ ap by_number c.in_err-p.was)

pub list_pair-requires : goal.list_pair-requires
list_pair-requires c =
    let l = section_with c.args.left c.args.left_sizes.now in
    let r = section_with c.args.right c.args.right_sizes.now in
    pair_fits l r c.args.sender c.args.receiver _ (answered (goal.at.list_pair-requires c).After-ask_pair ∙ ap by_number c.in_ok-p.was)

pub returns : goal.returns
returns c =
    let l = section_with c.args.left c.args.left_sizes.now in
    let r = section_with c.args.right c.args.right_sizes.now in
    let x = lists_of c.args.positions.now c.args.sent.now c.args.received.now in
    let by = answered (goal.at.returns c).After-ask_pair ∙ ap by_number c.in_ok-p.was in record {
      result_value = ap transferred_as c.list_pair.ensures.value ∙ answer-by l r c.args.sender c.args.receiver x _ by;
      received_after = c.list_pair.ensures.received_after ∙ lists-by l r c.args.sender c.args.receiver x _ by;
      told_apart = subst (λ (r : Result ℕ ListError). ToldApart (transferred_refusals r)) (sym c.list_pair.ensures.value) (told-by _ x);
    }
