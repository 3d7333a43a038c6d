-- How the count of the numbers below i that pass a test changes with i, and what windows of n numbers have, where the test
-- comes again after n. Assumes nothing.
use Prim.Native.Nat.{ℕ, zero, suc, ◌+◌, ◌≤◌, ◌<◌}
use mathlib.Core.Path.{◌≡◌, refl, ap, ◌∙◌}
use mathlib.Core.Bool.{Bool, true, false, cond}
use mathlib.Core.List.{◌∷◌, map}
use native.Mathlib.Nat.{add-zero, add-suc, suc-add}
use native.Mathlib.Omega.{arith}
use lib.ListN.{length}
use Rattle.numbers.specs.Search.{tally, passing, sum}
use Rattle.numbers.proofs.SearchLaws.{tally-none, tally-next, tally-yes, tally-no, tally-same, passing-length}

module _ (f : ℕ → Bool) where
  -- a window of n numbers from i on
  tally-add : (i n : ℕ) → tally f (i + n) ≡ tally f i + tally (λ j. f (i + j)) n
  tally-add i zero = ap (tally f) (add-zero i) ∙ omega (arith, tally-none (λ j. f (i + j)))
  tally-add i (suc n) =
      ap (tally f) (add-suc i n) ∙ omega (arith, tally-next f (i + n), tally-add i n, tally-next (λ j. f (i + j)) n)

  -- where none of the next n passes, the count stays
  tally-still : (i n : ℕ) → ((j : ℕ) → j < n → f (i + j) ≡ false) → tally f (i + n) ≡ tally f i
  tally-still i zero h = ap (tally f) (add-zero i)
  tally-still i (suc n) h =
      ap (tally f) (add-suc i n) ∙ tally-no f (i + n) (h n (omega arith)) ∙ tally-still i n (λ j l. h j (omega arith))

  -- where all of the next n pass, it grows by n
  pub tally-run : (i n : ℕ) → ((j : ℕ) → j < n → f (i + j) ≡ true) → tally f (i + n) ≡ tally f i + n
  tally-run i zero h = ap (tally f) (add-zero i) ∙ omega arith
  tally-run i (suc n) h =
      ap (tally f) (add-suc i n) ∙ omega (arith, tally-yes f (i + n) (h n (omega arith)), tally-run i n (λ j l. h j (omega arith)))

  -- from a number that passes to the next one that does, it grows by 1
  pub tally-gap : (i n : ℕ) → 0 < n → f i ≡ true → ((j : ℕ) → 0 < j → j < n → f (i + j) ≡ false) → tally f (i + n) ≡ tally f i + 1
  tally-gap i zero pos e h = absurd (omega arith)
  tally-gap i (suc n) pos e h =
      let s : i + suc n ≡ suc i + n = omega arith in
      ap (tally f) s
      ∙ tally-still (suc i) n (λ j l. let r : suc i + j ≡ i + suc j = omega arith in ap f r ∙ h (suc j) (omega arith) (omega arith))
      ∙ omega (arith, tally-yes f i e)

  -- over windows that pass alike, it grows alike
  pub tally-window : (i i' n : ℕ) → ((j : ℕ) → f (i + j) ≡ f (i' + j)) → tally f (i + n) + tally f i' ≡ tally f (i' + n) + tally f i
  tally-window i i' n h =
      omega (arith, tally-add i n, tally-add i' n, tally-same (λ j. f (i + j)) (λ j. f (i' + j)) n (λ j l. h j))

  -- over a period it grows by the count of one period, from any number on
  pub tally-period : (i n : ℕ) → ((j : ℕ) → f (n + j) ≡ f j) → tally f (i + n) ≡ tally f i + tally f n
  tally-period i n h =
      let s : i + n ≡ n + i = omega arith in
      ap (tally f) s ∙ omega (arith, tally-add n i, tally-same (λ j. f (n + j)) f i (λ j l. h j))

-- ---- windows

module _ (f : ℕ → Bool) (w : ℕ → ℕ) where
  -- what number t adds to a sum over those that pass
  abbrev adds : ℕ → ℕ
  adds t = cond (f t) (w t) 0

  window-first : (t n : ℕ) → sum (map w (passing f t (suc n))) ≡ adds t + sum (map w (passing f (suc t) n))
  unfolding passing sum
  window-first t n = go (f t)
    where
      go : (b : Bool)
          → sum (map w (cond b (t ∷ passing f (suc t) n) (passing f (suc t) n))) ≡ cond b (w t) 0 + sum (map w (passing f (suc t) n))
      go true = refl
      go false = omega arith

  window-last : (n t : ℕ) → sum (map w (passing f t (suc n))) ≡ sum (map w (passing f t n)) + adds (t + n)
  unfolding passing sum
  window-last zero t = window-first t 0 ∙ omega (arith, ap adds (add-zero t))
  window-last (suc n) t =
      let s : suc t + n ≡ t + suc n = omega arith in
      omega (arith, window-first t (suc n), window-last n (suc t), window-first t n, ap adds s)

-- up to N
module _ (f : ℕ → Bool) (n N : ℕ) (again : (t : ℕ) → t + n < N → f (t + n) ≡ f t) where
  -- from any number on as many pass
  pub length-again : (t : ℕ) → t + n ≤ N → length (passing f t n) ≡ length (passing f 0 n)
  length-again zero h = refl
  length-again (suc t) h =
      let same : cond {A = ℕ} (f (t + n)) 1 0 ≡ cond (f t) 1 0 = rw (again t (omega arith)) in
      omega (
        arith,
        passing-length f n t,
        passing-length f n (suc t),
        tally-next f t,
        tally-next f (t + n),
        ap (tally f) (suc-add t n),
        length-again t (omega arith),
      )

  -- and what comes again too has the same sum over them
  pub sum-again : (w : ℕ → ℕ) → ((t : ℕ) → t + n < N → w (t + n) ≡ w t)
      → (t : ℕ) → t + n ≤ N → sum (map w (passing f t n)) ≡ sum (map w (passing f 0 n))
  sum-again w alike zero h = refl
  sum-again w alike (suc t) h =
      let same : adds f w (t + n) ≡ adds f w t = rw (again t (omega arith), alike t (omega arith)) in
      omega (arith, window-first f w t n, window-last f w n t, sum-again w alike t (omega arith))
