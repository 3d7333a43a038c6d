-- Processor and local address lead back to exactly one element, and a processor's addresses have no gap: for any owner of
-- indices. Assumes nothing.
use Prim.Native.Nat.{ℕ, suc, ◌+◌, ◌<◌, zero-le}
use mathlib.Core.Path.{◌≡◌, refl, sym, ap, ◌∙◌}
use mathlib.Core.Bool.{true, false}
use native.Mathlib.Nat.{zero-add}
use native.Mathlib.Omega.{arith}
use lib.ListN.{length, get_or}
use borrow.Author.Tests.{eq-eqb, ne_eqb, eqb-true}
use Rattle.numbers.specs.Search.{passing, tally}
use Rattle.numbers.proofs.SearchLaws.{Nth, listed, found, passing-length, tally-none}
use Rattle.model.specs.Ownership.{owns, rank, elements_of, held, back_to}
use Rattle.model.specs.Demand2.{NoGap, LeadsBack, Addressed}

module _ (owner : ℕ → ℕ) where
  pub owns_of : (q i : ℕ) → owner i ≡ q → owns owner q i ≡ true
  unfolding owns
  owns_of q i h = eq-eqb (owner i) q h

  pub of_owns : (q i : ℕ) → owns owner q i ≡ true → owner i ≡ q
  unfolding owns
  of_owns q i h = eqb-true (owner i) q h

  pub unowned : (q i : ℕ) → (owner i ≡ q → ⊥) → owns owner q i ≡ false
  unfolding owns
  unowned q i h = ne_eqb (owner i) q h

  -- counted from 0, the length of the list of elements is their number
  pub held-is : (n q : ℕ) → length (elements_of owner n q) ≡ held owner n q
  unfolding elements_of held
  held-is n q =
      omega (arith, passing-length (owns owner q) n 0, tally-none (owns owner q), ap (tally (owns owner q)) (zero-add n))

  pub rank_is : (q i : ℕ) → owner i ≡ q → rank owner i ≡ held owner i q
  unfolding rank held
  rank_is q i h = ap (λ (o : ℕ). tally (owns owner o) i) h

  -- what stands at place x of the list of the first n elements of q
  pub rank-back : (n q x : ℕ) → x < held owner n q → LeadsBack owner n q x (back_to owner n q x)
  unfolding elements_of back_to held
  rank-back n q x h =
      let r : Nth (owns owner q) 0 n x (get_or (passing (owns owner q) 0 n) x 0) =
      listed (owns owner q) n 0 x (rw (← held-is n q) at h) in
      let o = of_owns q _ r.passes in
      record {
        inside = omega (arith, r.below);
        processor = o;
        address = rank_is q _ o ∙ omega (arith, r.nth, tally-none (owns owner q));
      }

  -- an element of q stands at the place of its address
  place_of : (n q i : ℕ) → i < n → owner i ≡ q → (rank owner i < held owner n q) × (back_to owner n q (rank owner i) ≡ i)
  unfolding elements_of back_to
  place_of n q i h o =
      let r = found (owns owner q) n 0 i zero-le (omega arith) (owns_of q i o) in
      let x : r.0 < held owner n q = rw (← held-is n q) r.1 in
      let e : rank owner i ≡ r.0 = ap (rank owner) (sym r.2) ∙ (rank-back n q r.0 x).address in
      rw e (x, r.2)

  pub rank_lt : (n q i : ℕ) → i < n → owner i ≡ q → rank owner i < held owner n q
  rank_lt n q i h o = (place_of n q i h o).0

  pub back-rank : (n i : ℕ) → i < n → back_to owner n (owner i) (rank owner i) ≡ i
  back-rank n i h = (place_of n (owner i) i h refl).1

  -- both are found again among the elements up to either
  pub rank-inj : (i j : ℕ) → owner i ≡ owner j → rank owner i ≡ rank owner j → i ≡ j
  rank-inj i j o r =
      let n : ℕ = suc (i + j) in
      sym (place_of n (owner j) i (omega arith) o).1 ∙ ap (back_to owner n (owner j)) r ∙ back-rank n j (omega arith)

  pub no_gap : (n q : ℕ) → NoGap owner n q
  no_gap n q = record {
    below = rank_lt n q;
    each = λ x h. let r = rank-back n q x h in (back_to owner n q x, r.inside, r.processor, r.address);
    once = λ i j o o' r. rank-inj i j (o ∙ sym o') r;
  }

  pub addressed : (p n : ℕ) → ((i : ℕ) → i < n → owner i < p) → Addressed owner p n
  addressed p n below = record {
    processor = below;
    address = λ i. rank_is (owner i) i refl ∙ sym (held-is i (owner i));
    back = back-rank n;
    there = rank-back n;
    no_gap = no_gap n;
  }
