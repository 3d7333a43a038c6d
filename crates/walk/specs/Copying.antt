-- Entries that repeat: each is the entry one period before it with a number added, modulo 2^32. Definitions only.
use Rattle.std.specs.Prelude.{ℕ, ◌+◌, ◌-◌, ◌%◌, ◌≤◌, ◌<◌, ◌≡◌, List, length, take, drop, get_or}
use Rattle.numbers.specs.Words.{words_of}
use Rattle.model.specs.ByteFills.{store_entries}

-- the entries from `period` up to `to` follow those one period before; every other byte stays
pub record Extends (period add to : ℕ) (before after : List ℕ) : Type 0 where
  pub size : length after ≡ length before
  pub head : take period (words_of 4 after) ≡ take period (words_of 4 before)
  pub stored : after ≡ store_entries before period (take (to - period) (drop period (words_of 4 after)))
  pub each : (j : ℕ) → period ≤ j → j < to → get_or (words_of 4 after) j 0 ≡ (get_or (words_of 4 after) (j - period) 0 + add) % 4294967296
