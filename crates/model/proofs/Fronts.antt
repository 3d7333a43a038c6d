-- The numbers below N that pass a test, without the first few of them: they begin at a number that passes, and are all that
-- pass from there on. Assumes nothing.
use Prim.Native.Nat.{ℕ, zero, suc, ◌+◌, ◌-◌, ◌≤◌, ◌<◌}
use mathlib.Core.Path.{◌≡◌, refl}
use mathlib.Core.Bool.{Bool, true, false}
use mathlib.Core.List.{List, []}
use native.Mathlib.Omega.{arith}
use lib.ListN.{drop}
use Rattle.numbers.specs.Search.{passing, head_or}
use Rattle.numbers.proofs.SearchLaws.{passing-yes, passing-no, passing-none}

module _ (f : ℕ → Bool) where
  -- the place of a list r of numbers that pass, the last of the numbers below N: it is below N only where it passes
  pub record Front (N : ℕ) (r : List ℕ) : Type 0 where
    pub within : head_or N r ≤ N
    pub passes : head_or N r < N → f (head_or N r) ≡ true
    pub same : passing f (head_or N r) (N - head_or N r) ≡ r

  end : (N : ℕ) → Front N []
  unfolding head_or
  end N =
      let none : N - N ≡ 0 = omega arith in
      record { within = omega arith; passes = λ h. absurd (omega arith); same = rw (none, passing-none) }

  pub fronts : (n a m N : ℕ) → a + n ≡ N → Front N (drop m (passing f a n))
  unfolding head_or
  fronts zero a zero N e = rw (passing-none f a) (end N)
  fronts zero a (suc m) N e = rw (passing-none f a) (end N)
  fronts (suc n) a m N e = go (f a) refl m (λ k. fronts n (suc a) k N (omega arith))
    where
      left : N - a ≡ suc n
      left = omega arith

      go : (b : Bool) → f a ≡ b → (m : ℕ) → ((k : ℕ) → Front N (drop k (passing f (suc a) n))) → Front N (drop m (passing f a (suc n)))
      go false p m ih = rw (passing-no f a n p) (ih m)
      go true p zero ih =
          rw (passing-yes f a n p) (record { within = omega arith; passes = λ h. p; same = rw left (passing-yes f a n p) })
      go true p (suc m) ih = rw (passing-yes f a n p) (ih m)
