-- Transfers: over all senders and receivers each position of the section stands in exactly one pair, once, so that the pairs'
-- entries add up to the count; a pair's are in rising order. Assumes nothing.
use Prim.Native.Nat.{ℕ, zero, suc, ◌+◌, ◌≤◌, ◌<◌, zero-le}
use mathlib.Core.Path.{◌≡◌, refl, sym, ap, ◌∙◌}
use mathlib.Core.Bool.{Bool, true, false, cond}
use native.Mathlib.Nat.{zero-add, le_refl}
use native.Mathlib.Omega.{arith}
use lib.ListN.{length, get_or}
use Rattle.numbers.specs.Search.{passing, tally, sum_below}
use Rattle.numbers.proofs.Tests.{both_true}
use Rattle.numbers.proofs.SearchLaws.{tally-none, tally-next, listed, found, passing-rises, passing-length}
use Rattle.numbers.proofs.RangeSums.{sum_same, sum-add, sum-zero, sum_one}
use Rattle.model.specs.Mappings.{Section}
use Rattle.model.specs.Ownership.{owner}
use Rattle.model.specs.Sections.{layout, count, index, owns_at}
use Rattle.model.specs.Questions.{first_no, of_section}
use Rattle.model.specs.Transfers.{is_entry, pair_places, InPair, InOnePair, entries_in_all, Assigned}
use Rattle.model.proofs.AcceptedLaws.{mapping-yes}
use Rattle.model.proofs.Demand2Holds.{owner-lt}
use Rattle.model.proofs.SectionLaws.{index-lt}
use Rattle.model.proofs.AddressLaws.{owns_of, of_owns}

-- as many stand in the list as are counted
pub passing-count : (f : ℕ → Bool) (n : ℕ) → length (passing f 0 n) ≡ tally f n
passing-count f n = omega (arith, passing-length f n 0, tally-none f, ap (tally f) (zero-add n))

-- ---- a position in its pair

rising : (left right : Section) (q m i j : ℕ) → i < j → j < length (pair_places left right q m)
    → get_or (pair_places left right q m) i 0 < get_or (pair_places left right q m) j 0
unfolding pair_places
rising left right q m = passing-rises (is_entry left right q m) (count left) 0

module _ (left right : Section) (l-ok : first_no (of_section left) ≡ 0) (r-ok : first_no (of_section right) ≡ 0) (same : count left ≡ count right) where
  -- the owners of the elements at position t
  s : ℕ → ℕ
  s t = owner right.mapping (index right t)

  r : ℕ → ℕ
  r t = owner left.mapping (index left t)

  s-lt : (t : ℕ) → t < count left → s t < (layout right).processors
  unfolding s layout
  s-lt t h = owner-lt right.mapping (mapping-yes right r-ok) (index right t) (index-lt right r-ok t (omega arith))

  r-lt : (t : ℕ) → t < count left → r t < (layout left).processors
  unfolding r layout
  r-lt t h = owner-lt left.mapping (mapping-yes left l-ok) (index left t) (index-lt left l-ok t h)

  entry-owners : (q m t : ℕ) → is_entry left right q m t ≡ true → (q ≡ s t) × (m ≡ r t)
  unfolding is_entry owns_at s r
  entry-owners q m t e =
      let b = both_true (owns_at right q t) (owns_at left m t) e in
      (sym (of_owns (owner right.mapping) q (index right t) b.0), sym (of_owns (owner left.mapping) m (index left t) b.1))

  owners-entry : (t : ℕ) → is_entry left right (s t) (r t) t ≡ true
  unfolding is_entry owns_at s r
  owners-entry t =
      rw (owns_of (owner right.mapping) (s t) (index right t) refl, owns_of (owner left.mapping) (r t) (index left t) refl)

  -- an entry's pair is that of the owners, and its place is how many entries lie before it
  entry-is : (t q m i : ℕ) → InPair left right t q m i → (q ≡ s t) × (m ≡ r t) × (i ≡ tally (is_entry left right q m) t)
  unfolding pair_places
  entry-is t q m i p =
      let f = is_entry left right q m in
      let n = rw p.position at (listed f (count left) 0 i p.entry) in
      let o = entry-owners q m t n.passes in
      (o.0, o.1, omega (arith, n.nth, tally-none f))

  once : (t : ℕ) → t < count left → InOnePair left right t
  unfolding pair_places
  once t h =
      let f = found (is_entry left right (s t) (r t)) (count left) 0 t zero-le (omega arith) (owners-entry t) in
      let stands : InPair left right t (s t) (r t) f.0 =
      record { sender = s-lt t h; receiver = r-lt t h; entry = f.1; position = f.2 } in
      record {
        sender = s t;
        receiver = r t;
        entry = f.0;
        stands = stands;
        only = λ q m i p.
            let e = entry-is t q m i p in
            (e.0, e.1, e.2 ∙ (λ j. tally (is_entry left right (e.0 j) (e.1 j)) t) ∙ sym (entry-is t (s t) (r t) f.0 stands).2);
      }

  -- ---- how many there are

  -- 1 for an entry, else 0
  one : ℕ → ℕ → ℕ → ℕ
  one t q m = cond (is_entry left right q m t) 1 0

  one_none : (t q m : ℕ) → ((q ≡ s t) × (m ≡ r t) → ⊥) → one t q m ≡ 0
  unfolding one
  one_none t q m f = go (is_entry left right q m t) refl
    where
      go : (b : Bool) → is_entry left right q m t ≡ b → ◌≡◌ {A = ℕ} (cond b 1 0) 0
      go true e = absurd (f (entry-owners q m t e))
      go false e = refl

  -- f of each sender and receiver, summed
  over : (ℕ → ℕ → ℕ) → ℕ
  over f = sum_below (layout right).processors (λ q. sum_below (layout left).processors (f q))

  over-one : (t : ℕ) → t < count left → over (one t) ≡ 1
  unfolding over one
  over-one t h =
      let n : ℕ = (layout left).processors in
      sum_one (layout right).processors (s t) (λ q. sum_below n (one t q)) (s-lt t h)
      (λ q f. sum_same n (one t q) (λ m. 0) (λ m l. one_none t q m (λ e. f e.0)) ∙ sum-zero n)
      ∙ sum_one n (r t) (one t (s t)) (r-lt t h) (λ m f. one_none t (s t) m (λ e. f e.1))
      ∙ ap (λ (b : Bool). cond b 1 0) (owners-entry t)

  over_add : (f g : ℕ → ℕ → ℕ) → over (λ q m. f q m + g q m) ≡ over f + over g
  unfolding over
  over_add f g =
      let n : ℕ = (layout left).processors in
      sum_same (layout right).processors _ (λ q. sum_below n (f q) + sum_below n (g q)) (λ q l. sum-add n (f q) (g q))
      ∙ sum-add (layout right).processors (λ q. sum_below n (f q)) (λ q. sum_below n (g q))

  over-same : (f g : ℕ → ℕ → ℕ) → ((q m : ℕ) → f q m ≡ g q m) → over f ≡ over g
  unfolding over
  over-same f g h = sum_same (layout right).processors _ _ (λ q l. sum_same (layout left).processors (f q) (g q) (λ m k. h q m))

  over_none : over (λ q m. 0) ≡ 0
  unfolding over
  over_none =
      sum_same (layout right).processors _ (λ q. 0) (λ q l. sum-zero (layout left).processors) ∙ sum-zero (layout right).processors

  -- the pairs' entries below position n
  all-below : (n : ℕ) → n ≤ count left → over (λ q m. tally (is_entry left right q m) n) ≡ n
  unfolding one
  all-below zero h = over-same _ (λ q m. 0) (λ q m. tally-none (is_entry left right q m)) ∙ over_none
  all-below (suc n) h =
      omega (
        arith,
        over-same (λ q m. tally (is_entry left right q m) (suc n)) _ (λ q m. tally-next (is_entry left right q m) n),
        over_add (λ q m. tally (is_entry left right q m) n) (one n),
        all-below n (omega arith),
        over-one n h,
      )

  pub assigned : Assigned left right
  unfolding entries_in_all over pair_places
  assigned = record {
    once = once;
    all =
        over-same (λ q m. length (pair_places left right q m)) (λ q m. tally (is_entry left right q m) (count left))
        (λ q m. passing-count (is_entry left right q m) (count left))
        ∙ all-below (count left) (le_refl (count left));
    rising = rising left right;
  }
