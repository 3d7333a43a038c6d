-- `enter_from` meets its contract.
use Prim.Native.Nat.{◌-◌}
use Rattle.walk.proofs.SpreadLaws.{Entering}
use Rattle.walk.proofs.spread.enter_from.Given as goal

abbrev pub invariant-loop-at : goal.invariant-loop-at
invariant-loop-at l = Entering l.first l.end l.period l.add l.initial.columns l.columns l.at

abbrev pub decreases-loop-at : goal.decreases-loop-at
decreases-loop-at l = l.end - l.at
