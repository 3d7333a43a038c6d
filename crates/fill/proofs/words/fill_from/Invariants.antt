-- `fill_from` meets its contract: each chunk goes on where the one before it ended.
use Prim.Native.Nat.{◌-◌}
use lib.ListN.{length}
use Rattle.fill.proofs.ChunkLaws.{Chunked}
use Rattle.fill.proofs.words.fill_from.Given as goal

abbrev pub invariant-loop-n : goal.invariant-loop-n
invariant-loop-n l = Chunked l.s l.initial.list l.list l.place l.paid l.n

abbrev pub decreases-loop-n : goal.decreases-loop-n
decreases-loop-n l = length l.initial.list - l.n
