-- `ask_pair` meets its contract: the left's refusal, the right's, one of what is asked of both, or the pair.
use mathlib.Core.Path.{◌≡◌, refl, sym, ap, ◌∙◌}
use mir.Syntax.{w64}
use mir.ValLaws.{to_z-of_z}
use Rattle.numbers.proofs.Signed.{back}
use Rattle.std.specs.Prelude.{Ok}
use Rattle.model.specs.Mappings.{section_with}
use Rattle.model.specs.Ownership.{nat}
use Rattle.model.specs.Questions.{first_no, AllYes}
use Rattle.model.specs.Refusals.{by_number, asked_as}
use Rattle.model.specs.Transfers.{of_pair}
use Rattle.model.proofs.QuestionLaws.{all_yes}
use Rattle.model.proofs.RefusalLaws.{number-nonzero, passed_on}
use Rattle.mapping.specs.Parts.{part_in}
use Rattle.section.specs.Shares.{share_in}
use Rattle.section.proofs.CallAnswers.{passed, listed}
use Rattle.transfer.specs.Pairs.{of_ends}
use Rattle.transfer.proofs.PairAnswers.{refused-by, paired, left-refused, right-refused, both-accepted}
use Rattle.transfer.proofs.questions.ask_pair.Goals as goal
use Rattle.transfer.proofs.questions.ask_pair.Goals.{After-ask_ends, In_ok-ask_ends}

pub returns-in_err-x : goal.returns-in_err-x
returns-in_err-x c =
    let l = section_with c.args.left c.args.left_sizes.now in
    let r = section_with c.args.right c.args.right_sizes.now in
    ap by_number (passed_on c.from_residual.result c.in_err-x.field-0.0 c.from_residual.ensures.1)
    ∙ left-refused l r c.args.sender c.args.receiver _ (sym c.in_err-x.ensures.value)

pub returns-in_err-y : goal.returns-in_err-y
returns-in_err-y c =
    let l = section_with c.args.left c.args.left_sizes.now in
    let r = section_with c.args.right c.args.right_sizes.now in
    ap by_number (passed_on c.from_residual-in_err-y.result c.in_err-y.field-0.0 c.from_residual-in_err-y.ensures.1)
    ∙ right-refused l r c.args.sender c.args.receiver c.in_ok-x.x (sym c.in_ok-x.ensures.value) _ (sym c.in_err-y.ensures.value)

-- what is asked of both
ends : (c : After-ask_ends) → asked_as c.ask_ends.result ≡ first_no (of_pair (section_with c.args.left c.args.left_sizes.now) (section_with c.args.right c.args.right_sizes.now) c.args.sender c.args.receiver)
ends c =
    c.ask_ends.ensures
    ∙ (λ i.
    first_no (of_ends c.in_ok-x.x c.in_ok-y.y (to_z-of_z w64 c.args.sender c.ranges.sender i)
    (to_z-of_z w64 c.args.receiver c.ranges.receiver i)))
    ∙ both-accepted (section_with c.args.left c.args.left_sizes.now) (section_with c.args.right c.args.right_sizes.now) c.args.sender c.args.receiver _
    (sym c.in_ok-x.ensures.value) _ (sym c.in_ok-y.ensures.value)

pub returns-in_err-ask_ends : goal.returns-in_err-ask_ends
returns-in_err-ask_ends c =
    let l = section_with c.args.left c.args.left_sizes.now in
    let r = section_with c.args.right c.args.right_sizes.now in
    let e = c.in_err-ask_ends.field-0.0 in
    ap by_number (passed_on c.from_residual-in_err-ask_ends.result e c.from_residual-in_err-ask_ends.ensures.1)
    ∙ refused-by l r c.args.sender c.args.receiver _ (number-nonzero e)
    (ap asked_as (sym c.in_err-ask_ends.was) ∙ ends (goal.at.returns-in_err-ask_ends c).After-ask_ends)

-- all of it is answered yes
yes : (c : In_ok-ask_ends) → AllYes (of_ends c.in_ok-x.x c.in_ok-y.y (back w64 c.args.sender) (back w64 c.args.receiver))
yes c = all_yes _ refl (sym c.in_ok-ask_ends.ensures)

pub share_of-requires : goal.share_of-requires
share_of-requires c = (
  c.in_ok-y.ensures.sound,
  listed (section_with c.args.right c.args.right_sizes.now) _ (sym c.in_ok-y.ensures.value),
  (yes (goal.at.share_of-requires c).In_ok-ask_ends).0,
)

pub share_of-requires-2 : goal.share_of-requires-2
share_of-requires-2 c = (
  c.in_ok-x.ensures.sound,
  listed (section_with c.args.left c.args.left_sizes.now) _ (sym c.in_ok-x.ensures.value),
  (yes (goal.at.share_of-requires-2 c).In_ok-ask_ends).1.0,
)

pub returns : goal.returns
returns c =
    let l = section_with c.args.left c.args.left_sizes.now in
    let r = section_with c.args.right c.args.right_sizes.now in
    let q = to_z-of_z w64 c.args.sender c.ranges.sender in
    let m = to_z-of_z w64 c.args.receiver c.ranges.receiver in
    let x-is = (passed l _ (sym c.in_ok-x.ensures.value)).strided in
    let y-is = (passed r _ (sym c.in_ok-y.ensures.value)).strided in
    let sender = c.share_of.ensures ∙ (λ i. share_in (y-is i) (nat (q i)) (part_in r.mapping.dealing (nat (q i)))) in
    let receiver = c.share_of-2.ensures ∙ (λ i. share_in (x-is i) (nat (m i)) (part_in l.mapping.dealing (nat (m i)))) in
    (λ i. Ok (record { sender = sender i; receiver = receiver i }))
    ∙ paired l r c.args.sender c.args.receiver (sym (ends (goal.at.returns c).After-ask_ends) ∙ ap asked_as c.in_ok-ask_ends.was)
