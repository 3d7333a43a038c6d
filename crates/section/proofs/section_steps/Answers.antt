-- `section_steps` meets its contract: either answer to questions 1 to 7 has its law.
use Prim.Native.Nat.{ℕ}
use mathlib.Core.Path.{◌≡◌, refl, sym, ap, ◌∙◌, subst}
use mathlib.Core.List.{List, []}
use Rattle.model.specs.declared.Dealing.{Dealing}
use Rattle.model.specs.declared.Dealing.TheVariants.{Cyclic, GenBlock}
use Rattle.model.specs.Mappings.{dealing_with, section_with}
use Rattle.model.specs.Calls.{steps_report}
use Rattle.section.specs.declared.questions.Strided.{Strided}
use Rattle.section.specs.Shares.{steps_for}
use Rattle.model.proofs.RefusalLaws.{passed_on}
use Rattle.section.specs.Answers.{steps_as, Short}
use Rattle.section.proofs.StepAnswers.{short}
use Rattle.section.proofs.CallAnswers.{steps-by, steps-refused}
use Rattle.section.proofs.section_steps.Goals as goal

-- the steps have nothing to do with the list
same-steps : (w : Strided) (d : Dealing) (bs : List ℕ) → steps_for w (dealing_with d []) ≡ steps_for w (dealing_with d bs)
same-steps w (Cyclic k) bs = refl
same-steps w GenBlock bs = refl

pub returns-in_err-w-clause-result_value : goal.returns-in_err-w-clause-result_value
returns-in_err-w-clause-result_value c =
    ap steps_as (passed_on c.from_residual.result c.in_err-w.field-0.0 c.from_residual.ensures.1)
    ∙ steps-refused (section_with c.args.x c.args.sizes.now) _ (sym c.in_err-w.ensures.value)

pub report_of-requires : goal.report_of-requires
report_of-requires c = subst (Short 2147483647) (sym c.steps_by.ensures) (short c.in_ok-w.w c.in_ok-w.ensures.sound (dealing_with c.args.x.mapping.dealing []))

pub returns-clause-result_value : goal.returns-clause-result_value
returns-clause-result_value c =
    let w = c.in_ok-w.w in
    let found = c.steps_by.ensures ∙ same-steps w c.args.x.mapping.dealing c.args.sizes.now in
    c.report_of.ensures ∙ ap (steps_report w.count) found
    ∙ steps-by (section_with c.args.x c.args.sizes.now) w (sym c.in_ok-w.ensures.value)
