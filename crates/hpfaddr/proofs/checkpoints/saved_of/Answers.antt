-- `saved_of` meets its contract: the numbers that `save` answers fit the fields.
use mathlib.Core.Path.{sym, ◌∙◌, subst}
use Rattle.hpfaddr.specs.Sizes.{CopiedFits}
use Rattle.hpfaddr.proofs.AnswerSizes.{copying-small}
use Rattle.hpfaddr.proofs.checkpoints.saved_of.Goals as goal

pub fields_of-requires : goal.fields_of-requires
fields_of-requires c = subst CopiedFits (sym c.save.ensures.result_value) (copying-small _)

pub returns-clause-copied_fits : goal.returns-clause-copied_fits
returns-clause-copied_fits c = subst CopiedFits (sym (c.fields_of.ensures ∙ c.save.ensures.result_value)) (copying-small _)
