-- Searches for a column: a block of columns as a window of rests, seen from a column outside it; the search for a position
-- by columns; and a course counted from its end.
use Prim.Native.Nat.{ℕ, ◌+◌, ◌*◌, ◌%◌, ◌≤◌, ◌<◌}
use mathlib.Core.Path.{◌≡◌, refl, sym, ap, ◌∙◌, subst}
use mathlib.Core.Bool.{Bool, true, false}
use mathlib.Core.Logic.{◌⊎◌, inl, inr, ⊎_elim}
use native.Mathlib.Nat.{mod-lt, mod-eq_of_lt, add-mod}
use native.Mathlib.Decide.{dec_lt}
use native.Mathlib.Omega.{arith}
use borrow.Author.Tests.{lt-ltb, le-ltb}
use Rattle.std.specs.Prelude.{Option, Some}
use Rattle.numbers.specs.Search.{passing, head_or}
use Rattle.numbers.specs.FirstHit.{within, first_of, first_hit}
use Rattle.numbers.proofs.Division.{rest-mul}
use Rattle.numbers.proofs.SearchLaws.{First, first, missing, first_found, first-is, head_first, head-missing, passing-same}
use Rattle.numbers.proofs.HitLaws.{within-true, true-within}
use Rattle.model.proofs.Rests.{Sum, sum-mod}
use Rattle.section.specs.Places.{reaches, first_from, found_below}

-- two tests that hold together are one
pub same_test : (a b : Bool) → (a ≡ true → b ≡ true) → (b ≡ true → a ≡ true) → a ≡ b
same_test true b f g = sym (f refl)
same_test false true f g = g refl
same_test false false f g = refl

-- ---- a window

-- from lo to hi lie the distances from column c to the columns from low to high, in this course or the next
pub record Seen (c low high m lo hi : ℕ) : Type 0 where
  pub above : 0 < lo
  pub below : hi < m
  pub place : ((lo + c ≡ low) × (hi + c ≡ high)) ⊎ ((lo + c ≡ low + m) × (hi + c ≡ high + m))

module _ {c low high m lo hi : ℕ} (v : Seen c low high m lo hi) (lc : c < m) (lh : high < m) where
  m-pos : 0 < m
  m-pos = omega arith

  -- of the rest e of a distance and the column y that it leads to, one is in its window if the other is
  aligned : (e y : ℕ) → e < m → y < m → Sum m c e y → ((lo ≤ e) × (e ≤ hi)) ⊎ ((low ≤ y) × (y ≤ high))
      → (e + low ≡ y + lo) × (e + high ≡ y + hi)
  aligned e y le ly s h =
      ⊎_elim
      (λ p. ⊎_elim (λ d. (omega arith, omega arith))
      (λ d. absurd (⊎_elim (λ b. omega arith) (λ b. omega (arith, v.above)) h)) s)
      (λ p. ⊎_elim (λ d. absurd (⊎_elim (λ b. omega arith) (λ b. omega (arith, v.below)) h))
      (λ d. (omega arith, omega arith)) s)
      v.place

  seen_at : (s t : ℕ) → within lo hi (t * s % m) ≡ reaches c s m low high t
  seen_at s t =
      let e : ℕ = t * s % m in
      let y : ℕ = (c + t * s) % m in
      let sum : Sum m c e y = subst (λ (n : ℕ). Sum m n e y) (mod-eq_of_lt lc) (sum-mod m c (t * s) m-pos) in
      let same = aligned e y (mod-lt (t * s) m-pos) (mod-lt (c + t * s) m-pos) sum in
      same_test (within lo hi e) (within low high y)
      (λ h. let w = within-true lo hi e h in let a = same (inl w) in true-within low high y (omega arith) (omega arith))
      (λ h. let w = within-true low high y h in let a = same (inr w) in true-within lo hi e (omega arith) (omega arith))

  pub from-outside : (s : ℕ) → first_hit s m lo hi ≡ first_from c s m low high
  unfolding first_hit first_from
  from-outside s = ap first_of (passing-same (λ t. within lo hi (t * s % m)) (reaches c s m low high) m 0 (λ t h l. seen_at s t))

pub from-inside : (c s m low high : ℕ) → c < m → low ≤ c → c ≤ high → Some 0 ≡ first_from c s m low high
unfolding first_from
from-inside c s m low high lc h l =
    let z : (c + 0 * s) % m ≡ c = ap (λ (n : ℕ). n % m) (omega arith) ∙ mod-eq_of_lt lc in
    let at : reaches c s m low high 0 ≡ true = true-within low high ((c + 0 * s) % m) (omega arith) (omega arith) in
    first-is (reaches c s m low high) m 0 (first 0 (omega arith) (omega arith) at (λ j g e. g))

-- ---- the search for a position below n
module _ (c s m low high n : ℕ) (m-pos : 0 < m) (g : ℕ → Bool) (same : (t : ℕ) → t < n → g t ≡ reaches c s m low high t) where
  f : ℕ → Bool
  f = reaches c s m low high

  -- the columns repeat after m
  again : (t : ℕ) → f t ≡ true → f (t % m) ≡ true
  unfolding f
  again t e =
      let p : (c + t % m * s) % m ≡ (c + t * s) % m =
      add-mod c (t % m * s) m ∙ ap (λ (x : ℕ). (c % m + x) % m) (rest-mul m s t) ∙ sym (add-mod c (t * s) m) in
      subst (λ (y : ℕ). within low high y ≡ true) (sym p) e

  place_of : {r : Option ℕ} → First f 0 m r → found_below n r ≡ head_or n (passing g 0 n)
  unfolding f
  place_of (first t h l p least) = elim (dec_lt t n) [
    | yes v ↦ rw (lt-ltb t n v) (sym (head_first g n 0 n (first t (omega arith) (omega arith) (same t v ∙ p) (λ j z e. early v j e))))
    | no v ↦ rw (le-ltb t n (omega arith)) (sym (head-missing g n 0 n (missing (λ j z u e. absurd (omega (arith, below j (omega arith) e))))))
  ]
    where
      below : (j : ℕ) → j < n → g j ≡ true → t ≤ j
      below j v e = least j (omega arith) (sym (same j v) ∙ e)

      early : t < n → (j : ℕ) → g j ≡ true → t ≤ j
      early v j e = elim (dec_lt j n) [
        | yes w ↦ below j w e
        | no w ↦ omega arith
      ]
  place_of (missing none) = sym (head-missing g n 0 n (missing (λ j z v e. nowhere j (omega arith) e)))
    where
      nowhere : (j : ℕ) → j < n → g j ≡ true → ⊥
      nowhere j v e = none (j % m) (omega arith) (omega (arith, mod-lt j m-pos)) (again j (sym (same j v) ∙ e))

  pub found-place : found_below n (first_from c s m low high) ≡ head_or n (passing g 0 n)
  unfolding first_from f
  found-place = place_of (first_found f m 0)
