-- `line_moves` meets its contract: courses and columns are small, so that the sums fit.
use native.Mathlib.Omega.{arith}
use Rattle.fill.proofs.PlanLaws.{taken-bounded, taken-spread, Lines, lines}
use Rattle.fill.proofs.plan.line_moves.Goals as goal
use Rattle.fill.proofs.plan.line_moves.Goals.{Start}

small : (c : Start) → Lines c.args.w c.requires.0 c.args.r c.args.b c.requires.1
small c = lines c.args.w c.requires.0 c.args.r c.args.b c.requires.1

pub overflow_mul-near : goal.overflow_mul-near
overflow_mul-near c = omega (arith, small (goal.at.overflow_mul-near c).Start)

pub overflow_add-near : goal.overflow_add-near
overflow_add-near c = omega (arith, small (goal.at.overflow_add-near c).Start)

pub overflow_mul-far : goal.overflow_mul-far
overflow_mul-far c = omega (arith, small (goal.at.overflow_mul-far c).Start)

pub overflow_sub-far : goal.overflow_sub-far
overflow_sub-far c = (small (goal.at.overflow_sub-far c).Start).back

pub spread_of-requires : goal.spread_of-requires
spread_of-requires c = taken-bounded _ c.requires.0

pub overflow_add-near-2 : goal.overflow_add-near-2
overflow_add-near-2 c = omega (arith, small (goal.at.overflow_add-near-2 c).Start)

pub moves_by-requires : goal.moves_by-requires
moves_by-requires c = omega (arith, c.spread_of.ensures, taken-spread _ c.requires.0)
