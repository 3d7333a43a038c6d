-- Neighbours in a processor's list of rows of positions: where they are in one row, the second is the place after the first in
-- that row. Over any two axes. Assumes nothing.
use Prim.Native.Nat.{ℕ, suc, ◌*◌, ◌/◌, ◌%◌, ◌<◌, zero-le}
use mathlib.Core.Path.{◌≡◌, refl, sym, ap, ◌∙◌}
use mathlib.Core.Bool.{Bool, true, false, cond}
use native.Mathlib.Omega.{arith}
use lib.Dec.{ltb}
use lib.ListN.{length, get_or}
use borrow.Author.Tests.{ltb-true}
use Rattle.model.specs.Axes.{Axis, paired, owns_on, places_on, first_on, later_on, next_from, next_in_rows, rows}
use Rattle.model.proofs.InTurnLaws.{leads-next}
use Rattle.model.proofs.PairLaws.{pair-first, pair-second, first-lt, second_lt}
use Rattle.model.proofs.AxisLaws.{WalksOn, places-lead, at_place}
use Rattle.model.proofs.RowLaws.{first-least, later-least, on-owner}

module _ (a b : Axis) where
  -- a walk that stays in row r does not go to the row's end
  stays-in : (q t r u : ℕ) → t < a.count → owns_on a q t ≡ true → r < b.count
      → next_from a b q r u < a.count * b.count → next_from a b q r u / a.count ≡ r
      → (u < a.count) × (next_from a b q r u % a.count ≡ u)
  stays-in q t r u h own l = go (ltb u a.count) refl (ltb v b.count)
    where
      v : ℕ
      v = later_on b (b.array.owner (b.element r)) r

      front : first_on a q < a.count
      front = omega (arith, (first-least a q).least t zero-le h own)

      go : (c : Bool) → ltb u a.count ≡ c → (d : Bool)
          → cond c (paired a.count u r) (cond d (paired a.count (first_on a q) v) (a.count * b.count)) < a.count * b.count
          → cond c (paired a.count u r) (cond d (paired a.count (first_on a q) v) (a.count * b.count)) / a.count ≡ r
          → (u < a.count)
          × (cond c (paired a.count u r) (cond d (paired a.count (first_on a q) v) (a.count * b.count)) % a.count ≡ u)
      go true p d i e = let k = ltb-true u a.count p in (k, pair-first a.count u r k)
      go false p true i e =
          absurd (omega (arith, pair-second a.count (first_on a q) v front, (later-least b (b.array.owner (b.element r)) r l).from))
      go false p false i e = absurd (omega arith)

  -- a place of the list, and the one after it in the row
  pub record Along (t u : ℕ) : Type 0 where
    pub below : t % a.count < a.count
    pub stays : a.next (t % a.count) < a.count
    pub next : u % a.count ≡ a.next (t % a.count)

  pub along-row : WalksOn (rows a b) → (q j : ℕ) → suc j < length (places_on (rows a b) q)
      → get_or (places_on (rows a b) q) j 0 / a.count ≡ get_or (places_on (rows a b) q) (suc j) 0 / a.count
      → Along (get_or (places_on (rows a b) q) j 0) (get_or (places_on (rows a b) q) (suc j) 0)
  unfolding next_in_rows
  along-row walk q j h same =
      let t : ℕ = get_or (places_on (rows a b) q) j 0 in
      let k : t < a.count * b.count = (at_place (rows a b) q j (omega arith)).below in
      let l = first-lt a.count b.count t k in
      let r = leads-next (places-lead (rows a b) walk q) j h in
      let o : ℕ = a.array.owner (a.element (t % a.count)) in
      let s = stays-in o (t % a.count) (t / a.count) (a.next (t % a.count)) l (on-owner a o (t % a.count) refl) (second_lt a.count b.count t k)
      (rw r.0 at r.1) (sym (same ∙ ap (λ (z : ℕ). z / a.count) r.0)) in
      record { below = l; stays = s.0; next = ap (λ (z : ℕ). z % a.count) r.0 ∙ s.1 }
