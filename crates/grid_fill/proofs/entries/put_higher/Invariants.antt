-- `put_higher` meets its contract. The invariant: storing what is left into the list as it is comes to the same, and the words
-- that are still to be read are as they were.
use Prim.Native.Nat.{ℕ, ◌+◌, ◌-◌, ◌≤◌, ◌<◌}
use mathlib.Core.Path.{◌≡◌}
use mathlib.Core.List.{List}
use lib.ListN.{get_or, take, drop}
use Rattle.numbers.specs.Words.{words_of}
use Rattle.model.specs.ByteFills.{store_entries}
use Rattle.grid_fill.specs.Entries.{higher}
use Rattle.grid_fill.proofs.entries.put_higher.Given as goal

-- what is to be stored after i entries
abbrev pub left : List ℕ → ℕ → ℕ → ℕ → ℕ → List ℕ
left l₀ from n add i = higher add (take (n - i) (drop (from + i) (words_of 4 l₀)))

abbrev pub invariant-loop-i : goal.invariant-loop-i
invariant-loop-i l =
    (store_entries l.list (l.to + l.i) (left l.initial.list l.from l.n l.add l.i) ≡ store_entries l.initial.list l.to (left l.initial.list l.from l.n l.add 0))
    × ((j : ℕ) → l.i ≤ j → j < l.n → get_or (words_of 4 l.list) (l.from + j) 0 ≡ get_or (words_of 4 l.initial.list) (l.from + j) 0)
