-- A processor's list of a section of any rank: where the next place is the next position that it owns, the walk leads through
-- the whole list. Assumes nothing.
use Prim.Native.Nat.{ℕ, ◌<◌, zero-le}
use mathlib.Core.Path.{◌≡◌, refl}
use mathlib.Core.Logic.{◌⊎◌, inl, inr}
use mathlib.Core.Bool.{Bool, true, false, or-true}
use native.Mathlib.Omega.{arith}
use lib.Dec.{ltb, eqb}
use lib.IntN.{pos}
use lib.ListN.{length, get_or, drop, drop_of_length-le}
use lib.Seq.{drop-cons}
use borrow.Author.Tests.{le-leb, lt-ltb, eq-eqb, ltb-true, ltb-false}
use Rattle.numbers.specs.Search.{tally, head_or}
use Rattle.numbers.proofs.SearchLaws.{tally-none, listed}
use Rattle.model.specs.Ownership.{nat}
use Rattle.model.specs.Axes.{Axis, owns_on, places_on, first_on, later_on, walk_on}
use Rattle.model.specs.GridCalls.{is_place_on}
use Rattle.model.specs.Demand3.{Leads}
use Rattle.model.proofs.AddressLaws.{of_owns}
use Rattle.model.proofs.InTurnLaws.{leads-passing}

-- the next place is the next position that the processor owns, or the count
unfoldable pub WalksOn : Axis → Type 0
WalksOn a = (q t : ℕ) → t < a.count → owns_on a q t ≡ true → a.next t ≡ later_on a q t

pub places-lead : (a : Axis) → WalksOn a → (q : ℕ) → Leads (walk_on a) (first_on a q) (places_on a q)
unfolding WalksOn later_on first_on places_on
places-lead a walks q = leads-passing (walk_on a) (owns_on a q) (walks q)

-- what stands at place j of processor q's list
pub record At (a : Axis) (q j t : ℕ) : Type 0 where
  pub below : t < a.count
  pub owner : a.array.owner (a.element t) ≡ q
  pub owned : owns_on a q t ≡ true
  pub nth : tally (owns_on a q) t ≡ j

pub at_place : (a : Axis) (q j : ℕ) → j < length (places_on a q) → At a q j (get_or (places_on a q) j 0)
unfolding places_on owns_on
at_place a q j h =
    let r = listed (owns_on a q) a.count 0 j h in
    record {
      below = omega (arith, r.below);
      owner = of_owns a.array.owner q _ r.passes;
      owned = r.passes;
      nth = omega (arith, r.nth, tally-none (owns_on a q));
    }

-- a position that processor q owns, or the count
abbrev pub IsPlace : Axis → ℕ → ℕ → Type 0
IsPlace a q t = (t ≡ a.count) ⊎ ((t < a.count) × (owns_on a q t ≡ true))

-- question 10 is answered yes of it
pub place-asked : (a : Axis) (q t : ℕ) → IsPlace a q t → is_place_on a (pos q) (pos t) ≡ true
unfolding is_place_on nat
place-asked a q t (inl e) = rw (le-leb 0 t zero-le, eq-eqb t a.count e)
place-asked a q t (inr (h, own)) = rw (le-leb 0 t zero-le, lt-ltb t a.count h, own) (or-true (eqb t a.count))

-- what is left of the list begins at a place
pub place-left : (a : Axis) (q n : ℕ) → IsPlace a q (head_or a.count (drop n (places_on a q)))
unfolding head_or
place-left a q n = go (ltb n (length (places_on a q))) refl
  where
    go : (b : Bool) → ltb n (length (places_on a q)) ≡ b → IsPlace a q (head_or a.count (drop n (places_on a q)))
    go true e =
        let h : n < length (places_on a q) = ltb-true n _ e in
        let r : At a q n (get_or (places_on a q) n 0) = at_place a q n h in
        rw (drop-cons (places_on a q) n 0 h) (inr (r.below, r.owned))
    go false e = rw (drop_of_length-le (places_on a q) (ltb-false n _ e)) (inl refl)
