-- The invariant: the sizes before q are 0 or more.
use Prim.Native.Nat.{ℕ, ◌≤◌, ◌<◌}
use lib.ListN.{get_or}
use Rattle.numbers.specs.Words.{words_of}
use Rattle.mapping.proofs.runs.each_natural.Given as goal

abbrev pub invariant-loop-q : goal.invariant-loop-q
invariant-loop-q l = (i : ℕ) → i < l.q → get_or (words_of 4 l.sizes) i 0 ≤ 2147483647
