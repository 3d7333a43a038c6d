-- The entries of an accepted pair are those of its sections: positions, addresses on both sides, and so the lists.
use Prim.Native.Nat.{ℕ, zero, suc, ◌+◌, ◌<◌}
use mathlib.Core.Path.{◌≡◌, refl, sym, ap, ◌∙◌}
use mathlib.Core.Bool.{Bool, true, false, ◌&&◌}
use mathlib.Core.List.{List, ◌∷◌, map}
use native.Mathlib.Omega.{arith}
use lib.IntN.{ℤ}
use Rattle.numbers.specs.Search.{passing}
use Rattle.numbers.proofs.Tests.{both_true}
use Rattle.numbers.proofs.SearchLaws.{passing-none, passing-yes, passing-no, passing-same}
use Rattle.model.specs.Mappings.{Section}
use Rattle.model.specs.Ownership.{nat}
use Rattle.model.specs.Sections.{count, address, owns_at}
use Rattle.model.specs.Questions.{first_no, of_section}
use Rattle.model.specs.Transfers.{is_entry, pair_places, Lists, fronted, with_entries}
use Rattle.section.specs.Strides.{strided_of}
use Rattle.section.specs.Shares.{share_of, address_by}
use Rattle.section.proofs.ShareLaws.{owned-by, address-by}
use Rattle.transfer.specs.Pairs.{pair_of, places}
use Rattle.transfer.specs.Answers.{lists_of, rising_lists}

-- what agrees on the numbers that pass gives the same of each of them
map-passed : (f : ℕ → Bool) (g h : ℕ → ℕ) (n a : ℕ) → ((i : ℕ) → i < a + n → f i ≡ true → g i ≡ h i)
    → map g (passing f a n) ≡ map h (passing f a n)
map-passed f g h zero a same = rw (passing-none f a)
map-passed f g h (suc n) a same = go (map-passed f g h n (suc a) (λ i k. same i (omega arith))) (f a) refl
  where
    go : map g (passing f (suc a) n) ≡ map h (passing f (suc a) n) → (b : Bool) → f a ≡ b → map g (passing f a (suc n)) ≡ map h (passing f a (suc n))
    go ih true p = rw (passing-yes f a n p) (λ i. same a (omega arith) p i ∷ ih i)
    go ih false p = rw (passing-no f a n p) ih

module _ (left right : Section) (l-ok : first_no (of_section left) ≡ 0) (r-ok : first_no (of_section right) ≡ 0) (same : count left ≡ count right) where
  -- the shares' positions are the pair's
  pub same-places : (q m : ℕ) → places (share_of right q) (share_of left m) ≡ pair_places left right q m
  unfolding places pair_places is_entry strided_of
  same-places q m =
      passing-same _ (is_entry left right q m) (count right) 0
      (λ t l h i. sym (owned-by right r-ok q t (omega arith)) i && sym (owned-by left l-ok m t (omega arith)) i)
      ∙ ap (passing (is_entry left right q m) 0) (sym same)

  module _ (q m : ℕ) where
    entry : (t : ℕ) → is_entry left right q m t ≡ true → (owns_at right q t ≡ true) × (owns_at left m t ≡ true)
    unfolding is_entry
    entry t e = both_true (owns_at right q t) (owns_at left m t) e

    -- and so are their addresses
    sent : map (address_by (share_of right q)) (pair_places left right q m) ≡ map (address right) (pair_places left right q m)
    unfolding pair_places
    sent =
        map-passed (is_entry left right q m) _ (address right) (count left) 0
        (λ t h e. sym (address-by right r-ok q t (omega arith) (entry t e).0))

    received : map (address_by (share_of left m)) (pair_places left right q m) ≡ map (address left) (pair_places left right q m)
    unfolding pair_places
    received =
        map-passed (is_entry left right q m) _ (address left) (count left) 0
        (λ t h e. sym (address-by left l-ok m t (omega arith) (entry t e).1))

  pub same_lists : (q m : ℤ) (x : Lists)
      → rising_lists (pair_of left right q m) x ≡ with_entries (pair_places left right (nat q) (nat m)) (address right) (address left) x
  same_lists q m x =
      let ts : List ℕ = pair_places left right (nat q) (nat m) in
      ap (λ (l : List ℕ). with_entries l (address_by (share_of right (nat q))) (address_by (share_of left (nat m))) x) (same-places (nat q) (nat m))
      ∙ (λ i. lists_of (fronted ts x.positions) (fronted (sent (nat q) (nat m) i) x.sent) (fronted (received (nat q) (nat m) i) x.received))
