-- `set_starts` meets its contract. The invariant: the pointers below q are set, and start is that of q.
use mathlib.Core.Path.{◌≡◌}
use Rattle.model.specs.Ownership.{owner_of}
use Rattle.model.specs.Storages.{storage_start}
use Rattle.storage.specs.Copying.{StartsIn}
use Rattle.storage.proofs.row.set_starts.Given as goal

abbrev pub invariant-loop-q : goal.invariant-loop-q
invariant-loop-q l = (l.start ≡ storage_start (owner_of l.l) l.l.size l.q) × StartsIn l.l l.q l.initial.row l.row
