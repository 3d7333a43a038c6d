-- How the code comes to a case of the Fortran text: by the distance, and by the stride with its sign taken off.
use mathlib.Core.Path.{◌≡◌, refl, ap}
use mathlib.Core.Logic.{◌⊎◌, inl, inr}
use mathlib.Core.Bool.{Bool, true, false, ◌&&◌, true≢false}
use native.Mathlib.Omega.{arith}
use borrow.Author.Tests.{ltb-true}
use lib.IntN.{ℤ, pos, negsuc, nat_abs, ◌-ℤ◌}
use lib.Signed.{le_z, lt_z}
use Rattle.numbers.proofs.Signed.{natural, lt-le}
use Rattle.model.specs.declared.Case.TheVariants.{Forward, Backward, Empty}
use Rattle.model.specs.Ownership.{nat}
use Rattle.model.specs.Sections.{triplet_of}
use Rattle.model.specs.Cases.{case_of}
use Rattle.model.proofs.CaseLaws.{apart}

pub turned : (z : ℤ) → lt_z z (pos 0) ≡ true → nat (pos 0 -ℤ z) ≡ nat_abs z
unfolding nat
turned (pos n) e = absurd (omega (arith, ltb-true n 0 e))
turned (negsuc n) e = omega arith

pub sized : (z : ℤ) → le_z (pos 0) z ≡ true → nat z ≡ nat_abs z
unfolding nat
sized z e = ap nat (natural z e)

-- a number below 0 is not above it
one-sign : (z : ℤ) → lt_z z (pos 0) ≡ true → lt_z (pos 0) z ≡ false
one-sign (pos n) e = absurd (omega (arith, ltb-true n 0 e))
one-sign (negsuc n) e = refl

not-both : (x y : Bool) → (y ≡ false) ⊎ (x ≡ false) → (x && y) ≡ false
not-both true y (inl e) = e
not-both true y (inr e) = absurd (true≢false e)
not-both false y e = refl

module _ (l h s : ℤ) where
  pub is-forward : lt_z (pos 0) s ≡ true → le_z (pos 0) (h -ℤ l) ≡ true → Forward (nat (h -ℤ l)) (nat s) ≡ case_of (triplet_of l h s)
  unfolding case_of
  is-forward e t = rw (apart l h, e, t, sized (h -ℤ l) t, sized s (lt-le (pos 0) s e)) refl

  pub is-backward : lt_z s (pos 0) ≡ true → le_z (pos 0) (l -ℤ h) ≡ true → Backward (nat (l -ℤ h)) (nat (pos 0 -ℤ s)) ≡ case_of (triplet_of l h s)
  unfolding case_of
  is-backward e t = rw (apart h l, one-sign s e, e, t, sized (l -ℤ h) t, turned s e) refl

  pub is-empty : (le_z (pos 0) (h -ℤ l) ≡ false) ⊎ (lt_z (pos 0) s ≡ false) → (le_z (pos 0) (l -ℤ h) ≡ false) ⊎ (lt_z s (pos 0) ≡ false)
      → Empty ≡ case_of (triplet_of l h s)
  unfolding case_of
  is-empty e t =
      rw (apart l h, apart h l, not-both (lt_z (pos 0) s) (le_z (pos 0) (h -ℤ l)) e, not-both (lt_z s (pos 0)) (le_z (pos 0) (l -ℤ h)) t) refl
