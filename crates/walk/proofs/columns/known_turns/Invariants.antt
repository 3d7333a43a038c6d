-- `known_turns` meets its contract.
use Prim.Native.Nat.{◌-◌}
use Rattle.walk.specs.Learning.{known_in, Known}
use Rattle.walk.proofs.BurstLaws.{Bursting}
use Rattle.walk.proofs.columns.known_turns.Given as goal

abbrev pub invariant-loop-i : goal.invariant-loop-i
invariant-loop-i l = Bursting l.m (known_in l.columns) (Known l.count l.columns) l.initial.list l.from l.turns l.initial.s l.list l.s l.i

abbrev pub decreases-loop-i : goal.decreases-loop-i
decreases-loop-i l = l.turns - l.i
