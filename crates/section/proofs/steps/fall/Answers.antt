-- `fall` meets its contract: the sums fit.
use native.Mathlib.Omega.{arith}
use Rattle.section.proofs.FallLaws.{fall-count, fall-courses}
use Rattle.section.proofs.steps.fall.Goals as goal

pub overflow_mul-result : goal.overflow_mul-result
overflow_mul-result c = omega (arith, fall-count c.args.x c.args.y c.args.k c.turns-j.result c.requires c.turns-j.ensures.1)

pub overflow_add-result : goal.overflow_add-result
overflow_add-result c = omega (arith, fall-count c.args.x c.args.y c.args.k c.turns-j.result c.requires c.turns-j.ensures.1)

pub overflow_mul-result-2 : goal.overflow_mul-result-2
overflow_mul-result-2 c = omega (arith, fall-courses c.args.x c.args.y c.args.k c.turns-j.result c.requires c.turns-j.ensures.1)

pub overflow_add-result-2 : goal.overflow_add-result-2
overflow_add-result-2 c = omega (arith, fall-courses c.args.x c.args.y c.args.k c.turns-j.result c.requires c.turns-j.ensures.1)
