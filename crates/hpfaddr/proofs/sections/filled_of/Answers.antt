-- `filled_of` meets its contract: the numbers that `fill_into_bytes` reports fit their fields.
use mathlib.Core.Path.{sym, ◌∙◌, subst}
use Rattle.hpfaddr.specs.Sizes.{FilledFits}
use Rattle.hpfaddr.proofs.AnswerSizes.{fill-small}
use Rattle.hpfaddr.proofs.sections.filled_of.Goals as goal

pub fields_of-requires : goal.fields_of-requires
fields_of-requires c = subst FilledFits (sym c.fill_into_bytes.ensures.0) (fill-small _)

pub returns-clause-filled_fits : goal.returns-clause-filled_fits
returns-clause-filled_fits c = subst FilledFits (sym (c.fields_of.ensures ∙ c.fill_into_bytes.ensures.0)) (fill-small _)
