-- `held_by_sums` meets its contract: a processor's elements are the difference of two sums. Assumes nothing.
use native.Mathlib.Omega.{arith}
use Rattle.mapping.proofs.CourseSums.{held-sums}
use Rattle.mapping.proofs.dealing.held_by_sums.Goals as goal

pub overflow_sub-result : goal.overflow_sub-result
overflow_sub-result c = omega (arith, held-sums _ _ c.requires.dealt c.args.i.0, c.course_sum.ensures)

pub returns : goal.returns
returns c = omega (arith, held-sums _ _ c.requires.dealt c.args.i.0, c.course_sum.ensures)
