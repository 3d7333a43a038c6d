-- Places whose owners stand in runs: the next place of a run is the next position that has the same owner, or the count. Assumes
-- nothing.
use Prim.Native.Nat.{ℕ, suc, ◌+◌, ◌-◌, ◌≤◌, ◌<◌}
use mathlib.Core.Path.{◌≡◌, refl, sym, ◌∙◌}
use mathlib.Core.Bool.{Bool, true, false, cond}
use native.Mathlib.Omega.{arith}
use lib.Dec.{ltb, eqb}
use borrow.Author.Tests.{ne_eqb, eqb-false, le-ltb, ltb-true, ltb-false}
use Rattle.numbers.specs.Search.{passing, head_or}
use Rattle.numbers.proofs.SearchLaws.{head-skip}
use Rattle.model.specs.Steps.{run_next}

-- below n, whoever owns two places owns those between them
unfoldable pub InRuns : (ℕ → ℕ) → ℕ → Type 0
InRuns at n = (t v u : ℕ) → t ≤ v → v ≤ u → u < n → at t ≡ at u → at v ≡ at t

module _ (at : ℕ → ℕ) (n : ℕ) (runs : InRuns at n) (t : ℕ) (h : t < n) where
  abbrev mine : ℕ → Bool
  mine u = eqb (at u) (at t)

  -- where the next position is another's, no later one is the processor's
  none-later : (at (suc t) ≡ at t → ⊥) → (u : ℕ) → suc t ≤ u → u < n → mine u ≡ false
  unfolding InRuns
  none-later f u a l = ne_eqb (at u) (at t) (λ e. f (runs t (suc t) u (omega arith) a l (sym e)))

  pub run-walks : run_next at n t ≡ head_or n (passing mine (suc t) (n - suc t))
  unfolding run_next
  run-walks = go (ltb (suc t) n) refl (mine (suc t)) refl
    where
      skipped : (m : ℕ) → ((u : ℕ) → suc t ≤ u → u < suc t + m → u < n → mine u ≡ false) → (suc t + m < n → mine (suc t + m) ≡ true)
          → head_or n (passing mine (suc t) (n - suc t)) ≡ cond (ltb (suc t + m) n) (suc t + m) n
      skipped m = head-skip mine n m (n - suc t) (suc t) (omega arith)

      go : (a : Bool) → ltb (suc t) n ≡ a → (b : Bool) → mine (suc t) ≡ b → run_next at n t ≡ head_or n (passing mine (suc t) (n - suc t))
      go true a true b =
          rw (a, b)
          (sym (skipped 0 (λ u k l m. absurd (omega arith)) (λ l. rw (add-zero-at) b) ∙ rw (add-zero-at, a)))
        where
          add-zero-at : suc t + 0 ≡ suc t
          add-zero-at = omega arith
      go true a false b =
          let l = ltb-true (suc t) n a in
          rw (a, b)
          (sym
          (skipped (n - suc t) (λ u k m v. none-later (eqb-false (at (suc t)) (at t) b) u k v) (λ v. absurd (omega arith))
          ∙ rw (le-ltb (suc t + (n - suc t)) n (omega arith))))
      go false a b p =
          let l = ltb-false (suc t) n a in
          rw a (sym (skipped 0 (λ u k m v. absurd (omega arith)) (λ v. absurd (omega arith)) ∙ rw (le-ltb (suc t + 0) n (omega arith))))
