-- Counting a processor's elements, for any owner of indices: one element more, and where a count leads back. Assumes nothing.
use Prim.Native.Nat.{ℕ, suc, ◌+◌, ◌≤◌, ◌<◌}
use mathlib.Core.Path.{◌≡◌, refl, sym, ap, ◌∙◌}
use mathlib.Core.Bool.{Bool, true, false, cond, true≢false}
use native.Mathlib.Decide.{dec_lt}
use native.Mathlib.Omega.{arith}
use lib.Dec.{eqb}
use borrow.Author.Tests.{eq-eqb, ne_eqb, eqb-true}
use Rattle.numbers.proofs.SearchLaws.{tally-none, tally-next, tally-mono, tally-le}
use Rattle.model.specs.Ownership.{owns, held, rank, back_to}
use Rattle.model.proofs.AddressLaws.{rank_is, back-rank}

-- 1 where two numbers are the same, else 0
abbrev pub one_if : ℕ → ℕ → ℕ
one_if a q = cond (eqb a q) 1 0

pub one_of : (a q : ℕ) → a ≡ q → one_if a q ≡ 1
one_of a q e = rw (eq-eqb a q e)

pub none_of : (a q : ℕ) → (a ≡ q → ⊥) → one_if a q ≡ 0
none_of a q f = rw (ne_eqb a q f)

module _ (owner : ℕ → ℕ) (q : ℕ) where
  pub held_none : held owner 0 q ≡ 0
  unfolding held
  held_none = tally-none (owns owner q)

  pub held_next : (i : ℕ) → held owner (suc i) q ≡ held owner i q + one_if (owner i) q
  unfolding held owns
  held_next i = tally-next (owns owner q) i

  pub held-mono : (i j : ℕ) → i ≤ j → held owner i q ≤ held owner j q
  unfolding held
  held-mono i j h = tally-mono (owns owner q) i j h

  pub held_more : (i : ℕ) → owner i ≡ q → held owner (suc i) q ≡ suc (held owner i q)
  held_more i e = omega (arith, held_next i, one_of (owner i) q e)

  pub held_same : (i : ℕ) → (owner i ≡ q → ⊥) → held owner (suc i) q ≡ held owner i q
  held_same i f = omega (arith, held_next i, none_of (owner i) q f)

  pub held-le : (i : ℕ) → held owner i q ≤ i
  unfolding held
  held-le i = tally-le (owns owner q) i

  -- fewer below i than below n: i is below n
  pub held-lt : (i n : ℕ) → held owner i q < held owner n q → i < n
  held-lt i n h = elim (dec_lt i n) [
    | yes l ↦ l
    | no f ↦ absurd (omega (arith, held-mono n i (omega arith)))
  ]

  -- an element of q with x others below it is the one that address x leads back to
  pub back_is : (n x i : ℕ) → x < held owner n q → owner i ≡ q → held owner i q ≡ x → back_to owner n q x ≡ i
  back_is n x i h o e =
      let r : rank owner i ≡ x = rank_is owner q i o ∙ e in
      let l : i < n = held-lt i n (omega arith) in
      rw (← r, ← o) (back-rank owner n i l)

  -- where the count passes x by one element, x leads back to that element
  pub back_at : (n x i j : ℕ) → j ≡ suc i → j ≤ n → held owner i q ≤ x → x < held owner j q → back_to owner n q x ≡ i
  back_at n x i j s h low high = go (eqb (owner i) q) refl
    where
      up : held owner j q ≡ held owner (suc i) q
      up = ap (λ (m : ℕ). held owner m q) s

      go : (b : Bool) → eqb (owner i) q ≡ b → back_to owner n q x ≡ i
      go true e =
          let o = eqb-true (owner i) q e in
          back_is n x i (omega (arith, held-mono j n h)) o (omega (arith, up, held_more i o))
      go false e = absurd (omega (arith, up, held_same i (λ o. true≢false (sym (eq-eqb (owner i) q o) ∙ e))))
