-- `lap_of` meets its contract. The invariant: some runs were taken. The measure: the elements that are left.
use Prim.Native.Nat.{◌-◌}
use Rattle.storage.proofs.CopyRuns.{Goes}
use Rattle.storage.proofs.laps.Way.lap_of.Given as goal

abbrev pub invariant-loop-r : goal.invariant-loop-r
invariant-loop-r g l = Goes l.self.loading l.self.layout l.self.pace l.initial.r l.r l.from l.initial.row l.initial.to l.row l.to

abbrev pub decreases-loop-r : goal.decreases-loop-r
decreases-loop-r g l = l.self.layout.size - l.r.index.0
