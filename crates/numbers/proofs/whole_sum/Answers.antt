-- `whole_sum` meets its contract: the product of a number and the one below it is twice a sum, and what is worked out fits.
use Rattle.std.proofs.Common.{◌*◌, ◌/◌, ℕ, arith, ap}
use Rattle.numbers.proofs.SumLaws.{tri-half, whole-fits}
use Rattle.numbers.proofs.whole_sum.Goals as goal

pub overflow_mul-result-2 : goal.overflow_mul-result-2
overflow_mul-result-2 c =
    omega (arith, ap (λ (x : ℕ). x * (c.args.a / c.args.m)) (tri-half c.args.n), whole-fits _ _ _ _ c.requires)

pub overflow_add-result : goal.overflow_add-result
overflow_add-result c =
    omega (arith, ap (λ (x : ℕ). x * (c.args.a / c.args.m)) (tri-half c.args.n), whole-fits _ _ _ _ c.requires)

pub returns : goal.returns
returns c = omega (arith, ap (λ (x : ℕ). x * (c.args.a / c.args.m)) (tri-half c.args.n))
