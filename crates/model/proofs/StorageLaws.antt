-- The storages of all processors laid end to end, for any owner of indices: the places of the elements are all numbers below n,
-- each once. Assumes nothing.
use Prim.Native.Nat.{ℕ, zero, suc, ◌+◌, ◌-◌, ◌≤◌, ◌<◌}
use mathlib.Core.Path.{◌≡◌, refl, sym, ap, ◌∙◌}
use native.Mathlib.Omega.{arith}
use Rattle.numbers.specs.Search.{sum_below}
use Rattle.numbers.proofs.RangeSums.{sum-next, sum_same, sum-add, sum-zero, sum_one, sum_mono, part_of}
use Rattle.model.specs.Ownership.{held, back_to}
use Rattle.model.specs.Storages.{storage_start, storage_place, OneToOne}
use Rattle.model.proofs.AddressLaws.{rank_lt, rank-back, rank-inj}
use Rattle.model.proofs.HeldLaws.{one_if, one_of, none_of, held_none, held_next}

module _ (owner : ℕ → ℕ) where
  -- how many elements all of p processors have, if these own the first n
  pub held-in-all : (p n : ℕ) → ((i : ℕ) → i < n → owner i < p) → sum_below p (held owner n) ≡ n
  held-in-all p zero h = sum_same p (held owner 0) (λ q. 0) (λ q l. held_none owner q) ∙ sum-zero p
  held-in-all p (suc n) h =
      omega (
        arith,
        sum_same p (held owner (suc n)) (λ q. held owner n q + one_if (owner n) q) (λ q l. held_next owner q n),
        sum-add p (held owner n) (one_if (owner n)),
        held-in-all p n (λ i l. h i (omega arith)),
        sum_one p (owner n) (one_if (owner n)) (h n (omega arith)) (λ q f. none_of (owner n) q (λ e. f (sym e))),
        one_of (owner n) (owner n) refl,
      )

  pub start-next : (n q : ℕ) → storage_start owner n (suc q) ≡ storage_start owner n q + held owner n q
  unfolding storage_start
  start-next n q = sum-next q (held owner n)

  start-mono : (n q m : ℕ) → q ≤ m → storage_start owner n q ≤ storage_start owner n m
  unfolding storage_start
  start-mono n q m h = sum_mono (held owner n) q m h

  -- the storage of the owner ends after the element
  place-lt : (n i : ℕ) → i < n → storage_place owner n i < storage_start owner n (suc (owner i))
  unfolding storage_place
  place-lt n i h = omega (arith, start-next n (owner i), rank_lt owner n (owner i) i h refl)

  start-le : (n i : ℕ) → storage_start owner n (owner i) ≤ storage_place owner n i
  unfolding storage_place
  start-le n i = omega arith

  -- an element of a lower processor lies before
  lower-first : (n i j : ℕ) → i < n → owner i < owner j → storage_place owner n i < storage_place owner n j
  lower-first n i j h l = omega (arith, place-lt n i h, start-mono n (suc (owner i)) (owner j) l, start-le n j)

  module _ (p n : ℕ) (dealt : (i : ℕ) → i < n → owner i < p) where
    start-last : storage_start owner n p ≡ n
    unfolding storage_start
    start-last = held-in-all p n dealt

    -- no start lies past the storage
    pub start-high : (q : ℕ) → q ≤ p → storage_start owner n q ≤ n
    start-high q h = omega (arith, start-mono n q p h, start-last)

    pub place-below : (i : ℕ) → i < n → storage_place owner n i < n
    place-below i h = omega (arith, place-lt n i h, start-high (suc (owner i)) (dealt i h))

    same-owner : (i j : ℕ) → i < n → j < n → storage_place owner n i ≡ storage_place owner n j → owner i ≡ owner j
    same-owner i j h k e =
        let not_lower : owner i < owner j → ⊥ = λ l. omega (arith, lower-first n i j h l) in
        let not-higher : owner j < owner i → ⊥ = λ l. omega (arith, lower-first n j i k l) in
        omega arith

    place-once : (i j : ℕ) → i < n → j < n → storage_place owner n i ≡ storage_place owner n j → i ≡ j
    unfolding storage_place
    place-once i j h k e =
        let o = same-owner i j h k e in
        rank-inj owner i j o (omega (arith, ap (storage_start owner n) o))

    place-each : (y : ℕ) → y < n → (i : ℕ) × (i < n) × (storage_place owner n i ≡ y)
    unfolding storage_place storage_start
    place-each y h =
        let r = part_of (held owner n) p y (omega (arith, start-last)) in
        let q : ℕ = r.0 in
        let x : ℕ = y - sum_below q (held owner n) in
        let b = rank-back owner n q x (omega (arith, r.1.from, r.1.below, sum-next q (held owner n))) in
        let s = ap (λ (o : ℕ). sum_below o (held owner n)) b.processor in
        (back_to owner n q x, b.inside, omega (arith, s, b.address, r.1.from))

    pub one-to-one : OneToOne n (storage_place owner n)
    one-to-one = record { below = place-below; once = place-once; each = place-each }
