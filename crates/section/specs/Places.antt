-- The parts of the search for a processor's first place. Definitions only.
use Rattle.std.specs.Prelude.{ℕ, ◌+◌, ◌*◌, ◌%◌, ◌≤◌, ◌<◌, Bool, cond, ltb, Option, Some, None}
use Rattle.numbers.specs.Search.{passing}
use Rattle.numbers.specs.FirstHit.{within, first_of}

-- from column c on by t times s, in courses of m columns: is the column from low to high?
abbrev pub reaches : ℕ → ℕ → ℕ → ℕ → ℕ → ℕ → Bool
reaches c s m low high t = within low high ((c + t * s) % m)

-- the least t at which it is; the columns repeat after m
unfoldable pub first_from : ℕ → ℕ → ℕ → ℕ → ℕ → Option ℕ
first_from c s m low high = first_of (passing (reaches c s m low high) 0 m)

-- a position found, if it is below n; else n
abbrev pub found_below : ℕ → Option ℕ → ℕ
found_below n (Some t) = cond (ltb t n) t n
found_below n None = n

-- a column c and a block of k columns from low on, in a course of m
pub record Block (c s m low k : ℕ) : Type 0 where
  pub column : c < m
  pub rest : s < m
  pub some : 0 < k
  pub inside : low + k ≤ m
  pub small : m ≤ 67108864
