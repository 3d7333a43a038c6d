-- `floor_sum` meets its contract: by the law of its step, which is on a smaller modulus, or of its end.
use Rattle.std.proofs.Common.{arith}
use Rattle.numbers.proofs.Depth.{depth_falls}
use Rattle.numbers.proofs.SumLaws.{sum_fits, next_fits, sum_step, sum-ends}
use Rattle.numbers.proofs.+floor_sum.Goals as goal

pub floor_sum-requires : goal.floor_sum-requires
floor_sum-requires t c = (
  omega (arith, c.decreases, depth_falls c.args.m c.args.a c.requires.divisor),
  next_fits _ _ _ _ c.requires (omega arith),
)

pub overflow_add-result : goal.overflow_add-result
overflow_add-result t c =
    omega (arith, sum_fits _ _ _ _ c.requires, c.whole_sum-whole.ensures, c.floor_sum.ensures, sum_step _ _ _ _ c.requires (omega arith))

pub returns-then-top-m : goal.returns-then-top-m
returns-then-top-m t c = omega (arith, c.whole_sum-whole.ensures, sum-ends _ _ _ _ c.requires c.if-top-m.true)

pub returns-else-top-m : goal.returns-else-top-m
returns-else-top-m t c =
    omega (arith, c.whole_sum-whole.ensures, c.floor_sum.ensures, sum_step _ _ _ _ c.requires (omega arith))
