-- `copy_periods` meets its contract. The invariant: whatever goes on over the distance extends the whole.
use Prim.Native.Nat.{◌-◌}
use Rattle.walk.proofs.CopyLaws.{Doubling}
use Rattle.walk.proofs.copies.copy_periods.Given as goal

abbrev pub invariant-loop-distance : goal.invariant-loop-distance
invariant-loop-distance l = Doubling l.period l.add l.to l.distance l.step l.initial.list l.list

abbrev pub decreases-loop-distance : goal.decreases-loop-distance
decreases-loop-distance l = l.limit - l.distance
