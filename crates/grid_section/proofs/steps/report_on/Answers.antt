-- `report_on` meets its contract.
use Rattle.std.proofs.Common.{sym, subst, []}
use Rattle.model.specs.Mappings.{dealing_with}
use Rattle.section.specs.Answers.{Short}
use Rattle.section.proofs.StepAnswers.{short}
use Rattle.grid_section.proofs.steps.report_on.Goals as goal

pub report_of-requires : goal.report_of-requires
report_of-requires c = subst (Short 2147483647) (sym c.steps_by.ensures) (short c.args.x.section c.requires (dealing_with c.args.x.dealing []))
