-- `copy_few` meets its contract. The invariant: j words are copied.
use mathlib.Core.Path.{◌≡◌}
use Rattle.storage.specs.Copying.{copied_run}
use Rattle.storage.proofs.words.copy_few.Given as goal

abbrev pub invariant-loop-j : goal.invariant-loop-j
invariant-loop-j l = l.to ≡ copied_run l.at l.start l.j l.from l.initial.to
