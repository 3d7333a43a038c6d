-- `write_positions` meets its contract. The invariant: with what lies ahead written too, the list is what it is to be.
use Rattle.std.specs.Iterator.Adapters.{enumerate_source, enumerate_count}
use Rattle.model.specs.Transfers.{fronted}
use Rattle.transfer.specs.Pairs.{places}
use Rattle.transfer.specs.Walks.{ahead}
use Rattle.transfer.proofs.FrontLaws.{Front}
use Rattle.transfer.proofs.listing.write_positions.Given as goal

abbrev pub invariant-loop-i : goal.invariant-loop-i
invariant-loop-i l =
    (goal.iterator-loop-i).can_next l.i-iterator × (goal.iterator-loop-i).is_finite l.i-iterator
    × Front (fronted (places l.fn.w.walked l.fn.w.tested) l.initial.list) (ahead (enumerate_source l.i-iterator)) l.list (enumerate_count l.i-iterator)
