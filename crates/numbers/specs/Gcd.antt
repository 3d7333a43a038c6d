-- The greatest common divisor by Euclid's algorithm. Definitions only.
use Rattle.std.specs.Prelude.{ℕ, zero, suc, ◌%◌}

-- at most as many divisions as the first number says
unfoldable pub gcd_in : ℕ → ℕ → ℕ → ℕ
gcd_in zero a b = a
gcd_in (suc n) a zero = a
gcd_in (suc n) a (suc b) = gcd_in n (suc b) (a % suc b)

-- the remainder falls, so that b divisions are enough
unfoldable pub gcd : ℕ → ℕ → ℕ
gcd a b = gcd_in b a b
