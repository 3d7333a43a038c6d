-- Words copied from one list into another: where each stands afterwards, and what stays. Assumes nothing.
use Prim.Native.Nat.{ℕ, zero, suc, ◌+◌, ◌<◌}
use mathlib.Core.Path.{◌≡◌, refl, ap, ◌∙◌}
use mathlib.Core.List.{List}
use mathlib.Core.Logic.{◌⊎◌, inl, inr}
use native.Mathlib.Nat.{add-zero, add-suc, eq-or-lt_of_le, le_of_suc-le-suc}
use native.Mathlib.Omega.{arith}
use lib.ListN.{length, get_or, set, drop, length-set}
use lib.Seq.{get_or-set_same, get_or-set_other, drop-set-lt}
use Rattle.model.specs.Storages.{copied}

module _ (from to : ℕ → ℕ) where
  pub copied-length : (n : ℕ) (s l : List ℕ) → length (copied from to n s l) ≡ length l
  unfolding copied
  copied-length zero s l = refl
  copied-length (suc n) s l = length-set (copied from to n s l) (to n) (get_or s (from n) 0) ∙ copied-length n s l

  -- words from m on stay where all places lie below
  pub copied-rest : (n m : ℕ) (s l : List ℕ) → ((i : ℕ) → i < n → to i < m) → drop m (copied from to n s l) ≡ drop m l
  unfolding copied
  copied-rest zero m s l h = refl
  copied-rest (suc n) m s l h =
      drop-set-lt m (copied from to n s l) (to n) (get_or s (from n) 0) (h n (omega arith))
      ∙ copied-rest n m s l (λ i k. h i (omega arith))

  -- each word stands at its place where no two go to the same
  pub copied_at : (n : ℕ) (s l : List ℕ) → ((i j : ℕ) → i < n → j < n → to i ≡ to j → i ≡ j) → ((i : ℕ) → i < n → to i < length l)
      → (i : ℕ) → i < n → get_or (copied from to n s l) (to i) 0 ≡ get_or s (from i) 0
  unfolding copied
  copied_at zero s l once room i h = absurd (omega arith)
  copied_at (suc n) s l once room i h =
      go (copied_at n s l (λ x y a b e. once x y (omega arith) (omega arith) e) (λ x a. room x (omega arith)) i) (eq-or-lt_of_le (le_of_suc-le-suc h))
    where
      go : (i < n → get_or (copied from to n s l) (to i) 0 ≡ get_or s (from i) 0) → (i ≡ n) ⊎ (i < n)
          → get_or (set (copied from to n s l) (to n) (get_or s (from n) 0)) (to i) 0 ≡ get_or s (from i) 0
      go ih (inl e) =
          rw e (get_or-set_same (copied from to n s l) (to n) (get_or s (from n) 0) 0 (omega (arith, room n (omega arith), copied-length n s l)))
      go ih (inr k) =
          get_or-set_other (copied from to n s l) (to n) (to i) (get_or s (from n) 0) 0 (λ e. omega (arith, once i n h (omega arith) e)) ∙ ih k

  -- a run of r words after the first n
  pub copied-joins : (n r : ℕ) (s l : List ℕ)
      → copied from to (n + r) s l ≡ copied (λ j. from (n + j)) (λ j. to (n + j)) r s (copied from to n s l)
  unfolding copied
  copied-joins n zero s l = rw (add-zero n)
  copied-joins n (suc r) s l = rw (add-suc n r, copied-joins n r s l)

-- the words that are read and the places below n are all that counts
pub copied-alike : (from to from' to' : ℕ → ℕ) (n : ℕ) (s s' l : List ℕ) → ((i : ℕ) → i < n → get_or s (from i) 0 ≡ get_or s' (from' i) 0)
    → ((i : ℕ) → i < n → to i ≡ to' i) → copied from to n s l ≡ copied from' to' n s' l
unfolding copied
copied-alike from to from' to' zero s s' l f t = refl
copied-alike from to from' to' (suc n) s s' l f t =
    let e = copied-alike from to from' to' n s s' l (λ i h. f i (omega arith)) (λ i h. t i (omega arith)) in
    λ i. set (e i) (t n (omega arith) i) (f n (omega arith) i)

pub copied-same : (from to from' to' : ℕ → ℕ) (n : ℕ) (s l : List ℕ) → ((i : ℕ) → i < n → from i ≡ from' i)
    → ((i : ℕ) → i < n → to i ≡ to' i) → copied from to n s l ≡ copied from' to' n s l
copied-same from to from' to' n s l f t = copied-alike from to from' to' n s s l (λ i h. ap (λ (x : ℕ). get_or s x 0) (f i h)) t
