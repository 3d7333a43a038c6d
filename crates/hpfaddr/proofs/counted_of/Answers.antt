-- `counted_of` meets its contract: the number that `local_count` answers fits its field.
use mathlib.Core.Path.{sym, subst}
use native.Mathlib.Omega.{arith}
use Rattle.model.proofs.AnswerLaws.{local-count-small}
use Rattle.hpfaddr.specs.Sizes.{CountedFits}
use Rattle.hpfaddr.proofs.counted_of.Goals as goal

pub overflow_cast-result : goal.overflow_cast-result
overflow_cast-result c = record { fits = omega (arith, subst CountedFits (sym c.in-Ok.ensures.result_value) (local-count-small _ _)) }

pub returns-in-Ok-clause-counted_fits : goal.returns-in-Ok-clause-counted_fits
returns-in-Ok-clause-counted_fits c = subst CountedFits (sym c.in-Ok.ensures.result_value) (local-count-small _ _)
