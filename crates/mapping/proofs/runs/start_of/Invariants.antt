-- The invariant: the sum so far is that of the sizes before i.
use Prim.Native.Nat.{◌*◌, ◌≤◌}
use mathlib.Core.Path.{◌≡◌}
use Rattle.numbers.specs.Words.{words_of}
use Rattle.model.specs.Ownership.{run_start}
use Rattle.mapping.proofs.runs.start_of.Given as goal

abbrev pub invariant-loop-i : goal.invariant-loop-i
invariant-loop-i l = (l.start ≡ run_start (words_of 4 l.sizes) l.i) × (l.start ≤ 4294967296 * l.i)
