-- `placed_of` meets its contract: the place that `first_place` answers fits its field.
use mathlib.Core.Path.{sym, ◌∙◌, subst}
use Rattle.hpfaddr.proofs.AnswerSizes.{first-place-small}
use Rattle.hpfaddr.specs.Sizes.{PlacedFits}
use Rattle.hpfaddr.proofs.sections.placed_of.Goals as goal

pub fields_of_place-requires : goal.fields_of_place-requires
fields_of_place-requires c = subst PlacedFits (sym c.first_place.ensures.result_value) (first-place-small _ _)

pub returns-clause-placed_fits : goal.returns-clause-placed_fits
returns-clause-placed_fits c = subst PlacedFits (sym (c.fields_of_place.ensures ∙ c.first_place.ensures.result_value)) (first-place-small _ _)
