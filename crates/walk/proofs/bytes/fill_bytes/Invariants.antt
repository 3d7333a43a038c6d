-- `fill_bytes` meets its contract.
use Prim.Native.Nat.{◌-◌}
use Rattle.walk.proofs.ByteRuns.{ByteRuns}
use Rattle.walk.proofs.bytes.fill_bytes.Given as goal

abbrev pub invariant-loop-n : goal.invariant-loop-n
invariant-loop-n l = ByteRuns l.m l.count l.quota l.initial.s l.initial.list l.list l.s l.n

abbrev pub decreases-loop-n : goal.decreases-loop-n
decreases-loop-n l = l.room - l.n
