-- Laws of refusals: their numbers are above 0, so that no refusal is taken for a full answer; and `?` hands them on as they are.
use Rattle.std.proofs.Common.{◌≡◌, ◌<◌, arith, Result, Ok, Err, IsErrAnd, ap, ◌∙◌}
use Rattle.std.proofs.lemmas.Result.{err_from_is_err_and}
use Rattle.model.specs.declared.refusals.Refusal.{Refusal}
use Rattle.model.specs.declared.refusals.Refusal.TheVariants.{
  Cells,
  Processors,
  Block,
  Alignment,
  Array,
  Triplet,
  Ends,
  Processor,
  Element,
  Place,
  Quota,
  Counts,
  Bounds,
  Sizes,
  Grid,
}
use Rattle.model.specs.Calls.{ToldApart}
use Rattle.model.specs.Refusals.{number, refusals}

pub number-positive : (e : Refusal) → 0 < number e
number-positive Cells = omega arith
number-positive Processors = omega arith
number-positive Block = omega arith
number-positive Alignment = omega arith
number-positive Array = omega arith
number-positive Triplet = omega arith
number-positive Ends = omega arith
number-positive Processor = omega arith
number-positive Element = omega arith
number-positive Place = omega arith
number-positive Quota = omega arith
number-positive Counts = omega arith
number-positive Bounds = omega arith
number-positive Sizes = omega arith
number-positive Grid = omega arith

pub number-nonzero : (e : Refusal) → number e ≡ 0 → ⊥
number-nonzero e z = omega (arith, number-positive e, z)

pub told-apart : {A : Type 0} (r : Result A Refusal) → ToldApart (refusals r)
told-apart (Ok a) = tt
told-apart (Err e) = (number-positive e, tt)

-- what `?` returns, from what its conversion ensures of the refusal
pub passed_on : {A : Type 0} (r : Result A Refusal) (e : Refusal) → IsErrAnd r (λ f. f ≡ e) → r ≡ Err e
passed_on r e h = let p = err_from_is_err_and r h in p.1 ∙ ap Err p.2
