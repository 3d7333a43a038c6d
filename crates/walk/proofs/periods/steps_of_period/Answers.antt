-- `steps_of_period` meets its contract.
use Prim.Native.Nat.{◌<◌}
use native.Mathlib.Omega.{arith}
use Rattle.numbers.proofs.GcdLaws.{gcd-pos-left}
use Rattle.walk.proofs.StepLaws.{period-one, period-more}
use Rattle.walk.proofs.periods.steps_of_period.Goals as goal
use Rattle.walk.proofs.periods.steps_of_period.Goals.{After-gcd-d}

-- the divisor
some : (c : After-gcd-d) → 0 < c.gcd-d.result
some c = rw c.gcd-d.ensures (gcd-pos-left _ _ (omega arith))

pub nonzero_rem-result : goal.nonzero_rem-result
nonzero_rem-result c = omega (arith, some (goal.at.nonzero_rem-result c).After-gcd-d)

pub nonzero_div-result : goal.nonzero_div-result
nonzero_div-result c = omega (arith, some (goal.at.nonzero_div-result c).After-gcd-d)

pub returns-then-m-eq0-clause-value : goal.returns-then-m-eq0-clause-value
returns-then-m-eq0-clause-value c = period-one _ _ c.if-m-eq0.true

pub returns-clause-value : goal.returns-clause-value
returns-clause-value c = period-more _ _ _ c.if-m-eq0.false c.gcd-d.ensures
