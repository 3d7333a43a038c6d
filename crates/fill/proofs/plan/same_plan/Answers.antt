-- `same_plan` meets its contract.
use native.Mathlib.Omega.{arith}
use Rattle.fill.proofs.PlanLaws.{taken-bounded, taken-spread}
use Rattle.fill.proofs.plan.same_plan.Goals as goal

pub spread_of-requires : goal.spread_of-requires
spread_of-requires c = taken-bounded _ c.requires.0

pub moves_by-requires : goal.moves_by-requires
moves_by-requires c = omega (arith, c.spread_of.ensures, taken-spread _ c.requires.0)
