-- The invariant: start is that of the run of q, and c is not below it.
use Prim.Native.Nat.{◌*◌, ◌≤◌}
use mathlib.Core.Path.{◌≡◌}
use Rattle.numbers.specs.Words.{words_of}
use Rattle.model.specs.Ownership.{run_start}
use Rattle.mapping.proofs.runs.owner_in.Given as goal

abbrev pub invariant-loop-q : goal.invariant-loop-q
invariant-loop-q l = (l.start ≡ run_start (words_of 4 l.sizes) l.q) × (l.start ≤ l.c.0) × (l.start ≤ 4294967296 * l.q)
