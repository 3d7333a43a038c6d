-- `ask_section` meets its contract: from the answers about the mapping and about the triplet.
use mathlib.Core.Path.{sym, ◌∙◌, subst}
use Rattle.model.specs.Mappings.{section_with}
use Rattle.model.proofs.RefusalLaws.{passed_on}
use Rattle.section.specs.Answers.{Sound}
use Rattle.section.proofs.SectionAnswers.{sound, mapping-accepted, mapping-refused}
use Rattle.section.proofs.questions.ask_section.Goals as goal

pub returns-in_err-array-clause-value : goal.returns-in_err-array-clause-value
returns-in_err-array-clause-value c =
    rw (passed_on c.from_residual.result c.in_err-array.field-0.0 c.from_residual.ensures.1)
    (mapping-refused (section_with c.args.x c.args.sizes.now) _ (sym c.in_err-array.ensures.value))

pub returns : goal.returns
returns c =
    let x = section_with c.args.x c.args.sizes.now in
    let e = c.triplet_asked.ensures ∙ mapping-accepted x c.in_ok-array.array (sym c.in_ok-array.ensures.value) in
    record { value = e; sound = subst Sound (sym e) (sound x) }
