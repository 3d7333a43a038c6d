-- `one_plan` meets its contract.
use Prim.Native.Nat.{ℕ, ◌/◌}
use mathlib.Core.Path.{ap}
use native.Mathlib.Omega.{arith}
use Rattle.fill.proofs.PlanLaws.{taken-bounded, taken-spread, one-planned}
use Rattle.fill.proofs.plan.one_plan.Goals as goal

pub spread_of-requires : goal.spread_of-requires
spread_of-requires c = taken-bounded _ c.requires.0

pub nonzero_div-a : goal.nonzero_div-a
nonzero_div-a c = omega (arith, c.spread_of.ensures, taken-spread _ c.requires.0)

pub period-requires : goal.period-requires
period-requires c = (taken-bounded _ c.requires.0, c.requires.1)

pub returns : goal.returns
returns c =
    one-planned c.args.w c.args.q c.args.a c.requires.2 _ c.period.result c.onward_by-add.result
    (ap (λ (z : ℕ). c.args.a.cells / z) c.spread_of.ensures) c.period.ensures c.onward_by-add.ensures _ c.same_plan.ensures
