-- A processor whose elements are one run of indices, for any owner of indices: how many it has, their addresses, going back, and
-- the first of them; and where every processor has one, the storages laid end to end are in index order. Assumes nothing.
use Prim.Native.Nat.{ℕ, zero, suc, ◌+◌, ◌-◌, ◌≤◌, ◌<◌}
use mathlib.Core.Path.{◌≡◌, refl, sym, ◌∙◌}
use mathlib.Core.Bool.{Bool, true, false, cond, ◌&&◌}
use native.Mathlib.Decide.{dec_lt}
use native.Mathlib.Nat.{le_refl}
use native.Mathlib.Omega.{arith}
use lib.Dec.{leb, ltb}
use borrow.Author.Tests.{eq-eqb, ne_eqb, le-leb, lt-leb, lt-ltb, le-ltb, ltb-true, ltb-false}
use Rattle.numbers.specs.Search.{passing, head_or}
use Rattle.numbers.proofs.RangeSums.{sum-none}
use Rattle.numbers.proofs.SearchLaws.{head-skip}
use Rattle.model.specs.Ownership.{owns, rank, held, back_to}
use Rattle.model.specs.Steps.{run_next}
use Rattle.model.specs.Storages.{storage_start, storage_place}
use Rattle.model.proofs.AddressLaws.{owns_of, unowned, rank_is}
use Rattle.model.proofs.HeldLaws.{held_none, held_more, held_same, back_is}
use Rattle.model.proofs.StorageLaws.{start-next}

-- of the first n, processor q has those from lo to hi − 1
pub record OneRun (owner : ℕ → ℕ) (n q lo hi : ℕ) : Type 0 where
  pub ordered : lo ≤ hi
  pub inside : hi ≤ n
  pub mine : (i : ℕ) → lo ≤ i → i < hi → owner i ≡ q
  pub only : (i : ℕ) → i < n → owner i ≡ q → (lo ≤ i) × (i < hi)

module _ {owner : ℕ → ℕ} {n q lo hi : ℕ} (r : OneRun owner n q lo hi) where
  -- how many of them are below i
  pub run-held : (i : ℕ) → i ≤ n → held owner i q ≡ i - lo - (i - hi)
  run-held zero h = held_none owner q ∙ omega arith
  run-held (suc i) h = go (dec_lt i lo) (dec_lt i hi) (run-held i (omega arith))
    where
      other : ((lo ≤ i) × (i < hi) → ⊥) → held owner (suc i) q ≡ held owner i q
      other f = held_same owner q i (λ e. f (r.only i h e))

      go : Dec (i < lo) → Dec (i < hi) → held owner i q ≡ i - lo - (i - hi) → held owner (suc i) q ≡ suc i - lo - (suc i - hi)
      go (yes a) b ih = omega (arith, other (λ e. omega arith), r.ordered)
      go (no a) (yes b) ih = omega (arith, held_more owner q i (r.mine i (omega arith) b))
      go (no a) (no b) ih = omega (arith, other (λ e. omega arith))

  pub run-all : held owner n q ≡ hi - lo
  run-all = omega (arith, run-held n (le_refl n), r.inside, r.ordered)

  pub run-rank : (i : ℕ) → i < n → owner i ≡ q → rank owner i ≡ i - lo
  run-rank i h e = omega (arith, rank_is owner q i e, run-held i (omega arith), r.only i h e)

  pub run-back : (x : ℕ) → x < hi - lo → back_to owner n q x ≡ lo + x
  run-back x h =
      back_is owner q n x (lo + x) (omega (arith, run-all)) (r.mine (lo + x) (omega arith) (omega arith))
      (omega (arith, run-held (lo + x) (omega (arith, r.inside))))

  pub run-owned : (i : ℕ) → i < n → owns owner q i ≡ (leb lo i && ltb i hi)
  run-owned i h = go (dec_lt i lo) (dec_lt i hi)
    where
      go : Dec (i < lo) → Dec (i < hi) → owns owner q i ≡ (leb lo i && ltb i hi)
      go (yes a) b = rw (lt-leb lo i a, unowned owner q i (λ e. omega (arith, r.only i h e)))
      go (no a) (yes b) = rw (le-leb lo i (omega arith), lt-ltb i hi b, owns_of owner q i (r.mine i (omega arith) b))
      go (no a) (no b) = rw (le-leb lo i (omega arith), le-ltb i hi (omega arith), unowned owner q i (λ e. omega (arith, r.only i h e)))

  -- the next of them, or n
  pub run-next : (i : ℕ) → i < n → owner i ≡ q → run_next owner n i ≡ cond (ltb (suc i) hi) (suc i) n
  unfolding run_next
  run-next i h e = go (dec_lt (suc i) hi) (dec_lt (suc i) n)
    where
      go : Dec (suc i < hi) → Dec (suc i < n) → run_next owner n i ≡ cond (ltb (suc i) hi) (suc i) n
      go (yes a) b =
          let low = (r.only i h e).0 in
          rw (lt-ltb (suc i) n (omega (arith, r.inside)), eq-eqb (owner (suc i)) (owner i) (r.mine (suc i) (omega arith) a ∙ sym e), lt-ltb (suc i) hi a)
      go (no a) (yes b) =
          rw (lt-ltb (suc i) n b, ne_eqb (owner (suc i)) (owner i) (λ f. a (r.only (suc i) b (f ∙ e)).1), le-ltb (suc i) hi (omega arith))
      go (no a) (no b) = rw (le-ltb (suc i) n (omega arith), le-ltb (suc i) hi (omega arith))

  -- the first of them, or n
  pub run-first : head_or n (passing (owns owner q) 0 n) ≡ cond (ltb lo hi) lo n
  run-first = go (ltb lo hi) refl
    where
      before : (m : ℕ) → ((j : ℕ) → j < m → j < n → (lo ≤ j) × (j < hi) → ⊥) → (j : ℕ) → 0 ≤ j → j < 0 + m → j < n → owns owner q j ≡ false
      before m f j a b l = unowned owner q j (λ e. f j (omega arith) l (r.only j l e))

      zero-on : (m : ℕ) → 0 + m ≡ m
      zero-on m = omega arith

      go : (b : Bool) → ltb lo hi ≡ b → head_or n (passing (owns owner q) 0 n) ≡ cond (ltb lo hi) lo n
      go true e =
          let l : lo < hi = ltb-true lo hi e in
          head-skip (owns owner q) n lo n 0 (omega arith) (before lo (λ j a b c. omega arith))
          (λ h. owns_of owner q (0 + lo) (r.mine (0 + lo) (omega arith) (omega arith)))
          ∙ rw (zero-on lo, lt-ltb lo n (omega (arith, r.inside)), e)
      go false e =
          let l : hi ≤ lo = ltb-false lo hi e in
          head-skip (owns owner q) n n n 0 (omega arith) (before n (λ j a b c. omega arith)) (λ h. absurd (omega arith))
          ∙ rw (zero-on n, le-ltb n n (le_refl n), e)

-- ---- where every processor has one, one after the other

module _ (owner : ℕ → ℕ) (p n : ℕ) (cut : ℕ → ℕ) (first : cut 0 ≡ 0) (runs : (q : ℕ) → q < p → OneRun owner n q (cut q) (cut (suc q))) where
  run-start : (q : ℕ) → q ≤ p → storage_start owner n q ≡ cut q
  unfolding storage_start
  run-start zero h = sum-none (held owner n) ∙ sym first
  run-start (suc q) h =
      omega (arith, start-next owner n q, run-start q (omega arith), run-all (runs q h), (runs q h).ordered)

  -- the word of element i has place i
  pub in-index-order : (i : ℕ) → i < n → owner i < p → storage_place owner n i ≡ i
  unfolding storage_place
  in-index-order i h l =
      omega (arith, run-start (owner i) (omega arith), run-rank (runs (owner i) l) i h refl, (runs (owner i) l).only i h refl)
