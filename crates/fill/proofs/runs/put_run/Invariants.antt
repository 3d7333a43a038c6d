-- `put_run` meets its contract. The invariant: storing what is left into the list as it is comes to the same.
use Prim.Native.Nat.{◌-◌, ◌<◌}
use mathlib.Core.Path.{◌≡◌}
use Rattle.model.specs.ByteFills.{store_entries}
use Rattle.fill.specs.RunFills.{addresses_from}
use Rattle.fill.proofs.runs.put_run.Given as goal

abbrev pub invariant-loop-i : goal.invariant-loop-i
invariant-loop-i l =
    (l.x < 4294967296) × (store_entries l.list l.i (addresses_from (l.n - l.i) l.x l.add) ≡ store_entries l.initial.list 0 (addresses_from l.n l.initial.x l.add))
