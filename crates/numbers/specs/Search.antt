-- Counting and listing the numbers that pass a test, and sums. Definitions only.
use Rattle.std.specs.Prelude.{ℕ, zero, suc, ◌+◌, Bool, cond, List, [], ◌∷◌}

-- how many numbers below n pass
unfoldable pub tally : (ℕ → Bool) → ℕ → ℕ
tally f zero = zero
tally f (suc n) = let r = tally f n in cond (f n) (suc r) r

-- the numbers from a to a + n - 1 that pass, in rising order
unfoldable pub passing : (ℕ → Bool) → ℕ → ℕ → List ℕ
passing f a zero = []
passing f a (suc n) = let r = passing f (suc a) n in cond (f a) (a ∷ r) r

-- the first of a list, or d where it is empty
unfoldable pub head_or : ℕ → List ℕ → ℕ
head_or d [] = d
head_or d (x ∷ xs) = x

unfoldable pub sum : List ℕ → ℕ
sum [] = zero
sum (x ∷ xs) = x + sum xs

-- f 0 + .. + f (n - 1)
unfoldable pub sum_below : ℕ → (ℕ → ℕ) → ℕ
sum_below zero f = 0
sum_below (suc n) f = sum_below n f + f n
