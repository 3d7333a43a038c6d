-- Numbers with an optional minus: their reading is a format, in which a number's text is its print and the byte that ends it.
use Prim.Native.Nat.{ℕ, zero, suc, ◌+◌, ◌<◌}
use mathlib.Core.Path.{◌≡◌, refl, sym, ◌∙◌, ap}
use mathlib.Core.Bool.{Bool, true, false}
use mathlib.Core.List.{List, [], ◌∷◌, ◌++◌}
use native.Mathlib.Omega.{arith}
use lib.Dec.{eqb}
use lib.IntN.{ℤ, pos, negsuc, neg_ℤ, nat_abs}
use borrow.Author.Tests.{eqb-true, ne_eqb}
use Rattle.model.specs.Sheets.{digits_of, print_number}
use Rattle.sheet.specs.Reading.{Got, got, bad, map_got}
use Rattle.sheet.specs.Numbers.{natural, signed, number}
use Rattle.sheet.proofs.Format.{Format, Outcome, Stops, took, stuck, stops-behind}
use Rattle.sheet.proofs.DigitLaws.{digits-head}
use Rattle.sheet.proofs.NaturalLaws.{NaturalText, natural-format}

pub record NumberText (m end : ℕ) (z : ℤ) (x : List ℕ) : Type 0 where
  pub size : nat_abs z < m
  pub text : x ≡ print_number z ++ end ∷ []

module _ (m end : ℕ) where
  pub minus : (s : List ℕ) → signed m end (45 ∷ s) ≡ map_got (λ n. neg_ℤ (pos n)) (natural 1 m end s)
  unfolding signed
  minus s = refl

  pub plain : (b : ℕ) (s : List ℕ) → eqb b 45 ≡ false → signed m end (b ∷ s) ≡ map_got pos (natural 0 m end (b ∷ s))
  unfolding signed
  plain b s e = rw e

module _ (m end : ℕ) (room : 1 < m) (mark : end < 48) where
  from_zero : Format (NaturalText 0 m end) (natural 0 m end)
  from_zero = natural-format 0 m end (omega arith) (omega arith) mark

  from_one : Format (NaturalText 1 m end) (natural 1 m end)
  from_one = natural-format 1 m end (omega arith) (omega arith) mark

  -- the text of a number, from that of its size
  above : (n : ℕ) (x : List ℕ) → NaturalText 0 m end n x → NumberText m end (pos n) x
  above n x o = record { size = o.below; text = o.text }

  below : (n : ℕ) (x : List ℕ) → NaturalText 1 m end n x → NumberText m end (neg_ℤ (pos n)) (45 ∷ x)
  below zero x o = absurd (omega (arith, o.least))
  below (suc n) x o = record { size = o.below; text = ap (λ (l : List ℕ). 45 ∷ l) o.text }

  pub signed-format : Format (NumberText m end) (signed m end)
  signed-format = record { some = (pos 0, digits_of 0 ++ end ∷ [], above 0 _ nought); complete = full; outcome = outcome }
    where
      nought : NaturalText 0 m end 0 (digits_of 0 ++ end ∷ [])
      nought = record { least = omega arith; below = omega arith; text = refl }

      full : (z : ℤ) (x : List ℕ) → NumberText m end z x → (t : List ℕ) → signed m end (x ++ t) ≡ got z t
      full (pos n) x o t =
          let (d, r, q) = digits-head n in
          let e : x ++ t ≡ (48 + d) ∷ ((r ++ end ∷ []) ++ t) = rw (o.text, q) in
          rw e (plain m end (48 + d) ((r ++ end ∷ []) ++ t) (ne_eqb (48 + d) 45 (λ (z : 48 + d ≡ 45). omega arith)))
          ∙ ap (λ (l : List ℕ). map_got pos (natural 0 m end l)) (sym e)
          ∙ ap (map_got pos) (from_zero.complete n x (record { least = omega arith; below = o.size; text = o.text }) t)
      full (negsuc n) x o t =
          let y : List ℕ = digits_of (suc n) ++ end ∷ [] in
          rw o.text (minus m end (y ++ t)
          ∙ ap (map_got (λ n. neg_ℤ (pos n)))
          (from_one.complete (suc n) y (record { least = omega arith; below = o.size; text = refl }) t))

      negative : (s : List ℕ) (y : Got ℕ) → natural 1 m end s ≡ y
          → Outcome (NumberText m end) (signed m end) (45 ∷ s) (map_got (λ n. neg_ℤ (pos n)) y)
      negative s (got n t) e = let (x, o, q) = took from_one e in (45 ∷ x, below n x o, ap (λ (l : List ℕ). 45 ∷ l) q)
      negative s (bad t) e =
          let (p, q, (n, v, o), z) = stuck from_one e in (
            45 ∷ p,
            ap (λ (l : List ℕ). 45 ∷ l) q,
            (neg_ℤ (pos n), v, below n (p ++ v) o),
            stops-behind (natural 1 m end) (signed m end) (45 ∷ [])
                (λ x u k. minus m end x ∙ ap (map_got (λ n. neg_ℤ (pos n))) k) p t z,
          )

      same : (b : ℕ) (s : List ℕ) → eqb b 45 ≡ false → (p t : List ℕ) → b ∷ s ≡ p ++ t → Stops (natural 0 m end) p t
          → Stops (signed m end) p t
      same b s e p [] q k = tt
      same b s e [] (a ∷ t) q k = λ t'. let h : a ≡ b = cc in plain m end a t' (rw h e) ∙ ap (map_got pos) (k t')
      same b s e (c ∷ p) (a ∷ t) q k = λ t'. let h : c ≡ b = cc in plain m end c (p ++ a ∷ t') (rw h e)
          ∙ ap (map_got pos) (k t')

      positive : (b : ℕ) (s : List ℕ) → eqb b 45 ≡ false → (y : Got ℕ) → natural 0 m end (b ∷ s) ≡ y
          → Outcome (NumberText m end) (signed m end) (b ∷ s) (map_got pos y)
      positive b s h (got n t) e = let (x, o, q) = took from_zero e in (x, above n x o, q)
      positive b s h (bad t) e =
          let (p, q, (n, v, o), z) = stuck from_zero e in
          (p, q, (pos n, v, above n (p ++ v) o), same b s h p t q z)

      go : (b : ℕ) (s : List ℕ) (x : Bool) → eqb b 45 ≡ x
          → Outcome (NumberText m end) (signed m end) (b ∷ s) (signed m end (b ∷ s))
      go b s true e = rw (eqb-true b 45 e, minus m end s) (negative s (natural 1 m end s) refl)
      go b s false e = rw (plain m end b s e) (positive b s e (natural 0 m end (b ∷ s)) refl)

      outcome : (s : List ℕ) → Outcome (NumberText m end) (signed m end) s (signed m end s)
      outcome [] = unfold signed in ([], refl, (pos 0, digits_of 0 ++ end ∷ [], above 0 _ nought), tt)
      outcome (b ∷ s) = go b s (eqb b 45) refl

pub number-format : (end : ℕ) → end < 48 → Format (NumberText 2147483648 end) (number end)
number-format end h = signed-format 2147483648 end (omega arith) h
