-- `copy_blocks` meets its contract. The invariant: b blocks are copied.
use Prim.Native.Nat.{◌*◌}
use mathlib.Core.Path.{◌≡◌}
use Rattle.storage.specs.Copying.{copied_run}
use Rattle.storage.proofs.words.copy_blocks.Given as goal

abbrev pub invariant-loop-b : goal.invariant-loop-b
invariant-loop-b g l = l.to ≡ copied_run l.at l.start (l.b * g.row.W) l.from l.initial.to
