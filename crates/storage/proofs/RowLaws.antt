-- A row of pointers: a pointer stands at its start plus how many of that processor's came before, for any owner of indices.
use Prim.Native.Nat.{ℕ, zero, suc, ◌+◌, ◌≤◌, ◌<◌}
use mathlib.Core.Path.{◌≡◌, refl, sym, ap, ◌∙◌}
use mathlib.Core.Bool.{Bool, true, false}
use mathlib.Core.List.{List}
use mathlib.Core.Logic.{◌⊎◌, inl, inr}
use native.Mathlib.Nat.{add-zero, add-suc, le_of_suc-le-suc, eq-or-lt_of_le}
use native.Mathlib.Numerals.{add-one}
use native.Mathlib.Omega.{arith}
use lib.Dec.{eqb}
use lib.ListN.{length, get_or, set, drop, length-set}
use lib.Seq.{get_or-set_same, get_or-set_other, drop-set-lt, drop-drop}
use borrow.Author.Tests.{eqb-true, eqb-false}
use Rattle.model.specs.declared.Layout.{Layout}
use Rattle.model.specs.Ownership.{owner_of, held}
use Rattle.model.specs.Storages.{storage_start, storage_place}
use Rattle.model.proofs.AddressLaws.{rank_is}
use Rattle.model.proofs.HeldLaws.{held_none, held_more, held_same}
use Rattle.storage.specs.Copying.{pointer, Points, StartsIn}

module _ (owner : ℕ → ℕ) where
  -- r elements of one processor, one after the other
  run-held : (q i r : ℕ) → ((j : ℕ) → j < r → owner (i + j) ≡ q) → held owner (i + r) q ≡ held owner i q + r
  run-held q i zero o = rw (add-zero i) (omega arith)
  run-held q i (suc r) o =
      rw (add-suc i r) (omega (arith, held_more owner q (i + r) (o r (omega arith)), run-held q i r (λ j h. o j (omega arith))))

  other-held : (q m i r : ℕ) → ((j : ℕ) → j < r → owner (i + j) ≡ q) → (m ≡ q → ⊥) → held owner (i + r) m ≡ held owner i m
  other-held q m i zero o f = rw (add-zero i)
  other-held q m i (suc r) o f =
      rw (add-suc i r) (held_same owner m (i + r) (λ e. f (sym e ∙ o r (omega arith))) ∙ other-held q m i r (λ j h. o j (omega arith)) f)

  module _ (n q i r : ℕ) (o : (j : ℕ) → j < r → owner (i + j) ≡ q) where
    -- the words of a run lie one after the other, from the pointer on
    pub run-place : (j : ℕ) → j < r → storage_place owner n (i + j) ≡ pointer owner n i q + j
    unfolding storage_place
    run-place j h =
        omega (
          arith,
          ap (storage_start owner n) (o j h),
          rank_is owner q (i + j) (o j h),
          run-held q i j (λ x k. o x (omega arith)),
        )

    -- and the pointer moves on by their number
    pub points_on : (p : ℕ) (row : List ℕ) → Points owner n p i row → q < p → p ≤ length row
        → Points owner n p (i + r) (set row q (pointer owner n i q + r))
    points_on p row h inside room m k = go (eqb m q) refl
      where
        go : (b : Bool) → eqb m q ≡ b → get_or (set row q (pointer owner n i q + r)) m 0 ≡ pointer owner n (i + r) m
        go true e =
            rw (eqb-true m q e) (get_or-set_same row q (pointer owner n i q + r) 0 (omega arith) ∙ omega (arith, run-held q i r o))
        go false e =
            let f = eqb-false m q e in
            get_or-set_other row q m (pointer owner n i q + r) 0 f ∙ h m k ∙ ap (λ (x : ℕ). storage_start owner n m + x) (sym (other-held q m i r o f))

-- ---- setting the starts one by one

module _ (l : Layout) (row₀ : List ℕ) where
  pub starts_none : StartsIn l 0 row₀ row₀
  starts_none = record { starts = λ q h. absurd (omega arith); others = refl; long = refl }

  pub starts-next : (m start : ℕ) (row : List ℕ) → StartsIn l m row₀ row → m < length row₀ → start ≡ storage_start (owner_of l) l.size m
      → StartsIn l (m + 1) row₀ (set row m start)
  starts-next m start row v h e = record {
    starts = λ q k. go q (le_of_suc-le-suc (rw (add-one m) at k));
    others =
        drop-set-lt (m + 1) row m start (omega arith)
        ∙ sym (drop-drop 1 m row) ∙ ap (drop 1) v.others ∙ drop-drop 1 m row₀;
    long = length-set row m start ∙ v.long;
  }
    where
      go : (q : ℕ) → q ≤ m → get_or (set row m start) q 0 ≡ storage_start (owner_of l) l.size q
      go q k = by (eq-or-lt_of_le k)
        where
          by : (q ≡ m) ⊎ (q < m) → get_or (set row m start) q 0 ≡ storage_start (owner_of l) l.size q
          by (inl s) = rw s (get_or-set_same row m start 0 (omega (arith, v.long)) ∙ e)
          by (inr s) = get_or-set_other row m q start 0 (λ x. omega arith) ∙ v.starts q s

-- they are the pointers before the first element
pub starts-point : {l : Layout} {row row' : List ℕ} → StartsIn l l.processors row row' → Points (owner_of l) l.size l.processors 0 row'
starts-point {l} v q h = omega (arith, v.starts q h, held_none (owner_of l) q)
