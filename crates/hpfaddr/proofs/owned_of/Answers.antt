-- `owned_of` meets its contract: the numbers that `ownership` answers fit the fields.
use mathlib.Core.Path.{sym, ◌∙◌, subst}
use Rattle.model.proofs.AnswerLaws.{ownership-small}
use Rattle.hpfaddr.specs.Sizes.{OwnedFits}
use Rattle.hpfaddr.proofs.owned_of.Goals as goal

pub fields_of-requires : goal.fields_of-requires
fields_of-requires c = subst OwnedFits (sym c.ownership.ensures.result_value) (ownership-small _ _)

pub returns-clause-owned_fits : goal.returns-clause-owned_fits
returns-clause-owned_fits c = subst OwnedFits (sym (c.fields_of.ensures ∙ c.ownership.ensures.result_value)) (ownership-small _ _)
