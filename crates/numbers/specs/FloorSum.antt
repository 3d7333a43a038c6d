-- Sums of quotients. Definitions only.
use Rattle.std.specs.Prelude.{ℕ, zero, suc, ◌+◌, ◌*◌, ◌/◌, ◌^◌, ◌<◌}

-- the sum of (a * j + b) / m over the j below n
unfoldable pub floor_sum : ℕ → ℕ → ℕ → ℕ → ℕ
floor_sum zero m a b = 0
floor_sum (suc n) m a b = floor_sum n m a b + (a * n + b) / m

-- the sum of the j below n
unfoldable pub tri : ℕ → ℕ
tri zero = 0
tri (suc n) = tri n + n

-- numbers for which the sum below n, and each number on the way to it, fits 64 bits
pub record SumFits (n m a b : ℕ) : Type 0 where
  pub divisor : 0 < m
  pub terms : n < 2 ^ 32
  pub total : suc n * (a * n + b) < 2 ^ 64
