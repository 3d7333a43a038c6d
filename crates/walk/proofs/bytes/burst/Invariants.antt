-- `burst` meets its contract.
use Rattle.walk.specs.Moving.{add_from}
use Rattle.walk.specs.Bursts.{Before}
use Rattle.walk.proofs.BurstLaws.{Bursting}
use Rattle.walk.proofs.bytes.burst.Given as goal

abbrev pub invariant-loop-i : goal.invariant-loop-i
invariant-loop-i g l = Bursting l.m (add_from l.m) (Before l.count) l.initial.list l.from l.turns l.initial.s l.list l.s l.i
