-- `copy_all` meets its contract. The invariant: the words below the run's index are copied. The measure: those that are left.
use Prim.Native.Nat.{◌-◌}
use Rattle.storage.proofs.LapLaws.{Along}
use Rattle.storage.proofs.laps.copy_all.Given as goal

abbrev pub invariant-loop-r : goal.invariant-loop-r
invariant-loop-r l = Along l.loading l.layout l.pace l.from l.initial.row l.initial.to l.row l.to l.r

abbrev pub decreases-loop-r : goal.decreases-loop-r
decreases-loop-r l = l.layout.size - l.r.index.0
