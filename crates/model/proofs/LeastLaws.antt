-- The least number that passes a test, from a on and below N, or N: what a search finds, and it alone. Assumes nothing.
use Prim.Native.Nat.{ℕ, zero, suc, ◌+◌, ◌≤◌, ◌<◌}
use mathlib.Core.Path.{◌≡◌, refl, sym, ap, ◌∙◌}
use mathlib.Core.Bool.{Bool, true, false, true≢false}
use mathlib.Core.Logic.{◌⊎◌, inl, inr}
use native.Mathlib.Nat.{le_refl, le_antisymm, eq-or-lt_of_le}
use native.Mathlib.Omega.{arith}
use lib.Dec.{ltb}
use borrow.Author.Tests.{ltb-true, ltb-false}
use Rattle.numbers.specs.Search.{passing, head_or}
use Rattle.numbers.proofs.SearchLaws.{passing-yes, passing-no, passing-none}

-- t is that number
pub record Least (f : ℕ → Bool) (a N t : ℕ) : Type 0 where
  pub from : a ≤ t
  pub within : t ≤ N
  pub passes : t < N → f t ≡ true
  pub least : (j : ℕ) → a ≤ j → j < N → f j ≡ true → t ≤ j

module _ {f : ℕ → Bool} {a N : ℕ} where
  least-le : {t u : ℕ} → Least f a N t → Least f a N u → t ≤ u
  least-le {t} {u} p q = go (ltb u N) refl
    where
      go : (b : Bool) → ltb u N ≡ b → t ≤ u
      go true e = let l = ltb-true u N e in p.least u q.from l (q.passes l)
      go false e = omega (arith, p.within, ltb-false u N e)

  -- there is one only
  pub least-same : {t u : ℕ} → Least f a N t → Least f a N u → t ≡ u
  least-same p q = le_antisymm (least-le p q) (least-le q p)

-- the search finds it
pub head-least : (f : ℕ → Bool) (N n a : ℕ) → a + n ≡ N → Least f a N (head_or N (passing f a n))
unfolding head_or
head-least f N zero a e =
    rw passing-none (record { from = omega arith; within = omega arith; passes = λ h. absurd (omega arith); least = λ j h l p. absurd (omega arith) })
head-least f N (suc n) a e = go (head-least f N n (suc a) (omega arith)) (f a) refl
  where
    go : Least f (suc a) N (head_or N (passing f (suc a) n)) → (b : Bool) → f a ≡ b → Least f a N (head_or N (passing f a (suc n)))
    go ih true p =
        rw (passing-yes f a n p) (record { from = le_refl a; within = omega arith; passes = λ h. p; least = λ j h l q. h })
    go ih false p =
        rw (passing-no f a n p)
        (record { from = omega (arith, ih.from); within = ih.within; passes = ih.passes; least = λ j h l q. after j h l q (eq-or-lt_of_le h) })
      where
        after : (j : ℕ) → a ≤ j → j < N → f j ≡ true → (a ≡ j) ⊎ (a < j) → head_or N (passing f (suc a) n) ≤ j
        after j h l q (inl s) = absurd (true≢false (sym q ∙ ap f (sym s) ∙ p))
        after j h l q (inr s) = ih.least j s l q
