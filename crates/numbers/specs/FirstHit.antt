-- The first multiple of a number whose rest lies in a window. Definitions only.
use Rattle.std.specs.Prelude.{ℕ, ◌*◌, ◌%◌, ◌^◌, ◌≤◌, ◌<◌, Bool, ◌&&◌, List, [], ◌∷◌, leb, Option, Some, None}
use Rattle.numbers.specs.Search.{passing}

-- is y from lo to hi?
abbrev pub within : ℕ → ℕ → ℕ → Bool
within lo hi y = leb lo y && leb y hi

-- the first of a list, if there is one
unfoldable pub first_of : List ℕ → Option ℕ
first_of [] = None
first_of (x ∷ xs) = Some x

-- the least t with lo <= t * s % m <= hi; the rests by m repeat after m multiples
unfoldable pub first_hit : ℕ → ℕ → ℕ → ℕ → Option ℕ
first_hit s m lo hi = first_of (passing (λ t. within lo hi (t * s % m)) 0 m)

-- a window of rests by m without 0, and numbers that fit 64 bits
pub record Window (s m lo hi : ℕ) : Type 0 where
  pub above : 0 < lo
  pub some : lo ≤ hi
  pub below : hi < m
  pub rest : s < m
  pub small : m ≤ 2 ^ 31
