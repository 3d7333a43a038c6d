-- Addresses that lie so much higher. Definitions only.
use Rattle.std.specs.Prelude.{ℕ, ◌+◌, ◌%◌, ◌<◌, List, [], ◌∷◌, map}

-- each with so much added, modulo 2^32
abbrev pub higher : ℕ → List ℕ → List ℕ
higher add xs = map (λ x. (x + add) % 4294967296) xs

-- each address is below 2^31
abbrev pub AllLow : List ℕ → Type 0
AllLow [] = Unit {0}
AllLow (x ∷ xs) = (x < 2147483648) × AllLow xs
