-- How many multiples of a number are below another. Definitions only.
use Rattle.std.specs.Prelude.{ℕ, ◌+◌, ◌-◌, ◌/◌, cond, ltb}

-- of 0, s, .. (n − 1)·s: the quotient of d by s, rounded up, and n at most
unfoldable pub multiples_below : ℕ → ℕ → ℕ → ℕ
multiples_below s n d =
    let m : ℕ = (d + (s - 1)) / s in
    cond (ltb m n) m n
