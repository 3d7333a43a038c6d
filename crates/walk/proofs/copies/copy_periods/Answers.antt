-- `copy_periods` meets its contract. The invariant: whatever goes on over the distance extends the whole.
use native.Mathlib.Omega.{arith}
use Rattle.walk.proofs.CopyLaws.{doubling-twice}
use Rattle.walk.proofs.copies.copy_periods.Goals as goal

pub loop-distance-preserved : goal.loop-distance-preserved
loop-distance-preserved c = doubling-twice c.requires.2 (omega arith) c.loop-distance.invariant c.repeat.ensures
