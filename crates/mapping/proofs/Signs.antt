-- The sign of a number, the natural number that it is, and what the machine's answers say of a parameter.
use Prim.Native.Nat.{ℕ, suc, zero-le, ◌≤◌, ◌<◌}
use mathlib.Core.Path.{◌≡◌, refl, sym, ◌∙◌}
use mathlib.Core.Bool.{Bool, true, false, false≢true}
use native.Mathlib.Omega.{arith}
use borrow.Author.Tests.{ne_eqb, ltb-true, le-leb}
use lib.Dec.{T, eqb, ltb}
use lib.IntN.{ℤ, pos, negsuc, nat_abs}
use lib.Signed.{lt_z, non_neg}
use mir.Syntax.{w64}
use mir.Val.{SFits, of_z}
use mir.ValLaws.{to_z-of_z}
use Rattle.numbers.proofs.Signed.{small-fits, back, read_of}
use Rattle.model.specs.Ownership.{nat}
use Rattle.model.specs.Questions.{is_below}
use Rattle.model.proofs.QuestionLaws.{below-is}

-- a test of the bits for 0
pub zero_bits : (z : ℤ) → SFits w64 z → eqb (of_z w64 z) 0 ≡ eqb (nat_abs z) 0
zero_bits (pos n) f = refl
zero_bits (negsuc n) f =
    ne_eqb (of_z w64 (negsuc n)) 0 (λ e. omega (arith, f.sfits)) ∙ sym (ne_eqb (suc n) 0 (λ e. omega arith))

pub below : (z : ℤ) → lt_z z (pos 0) ≡ true → 0 ≡ nat z
unfolding nat
below (pos n) e = omega (arith, ltb-true n 0 e)
below (negsuc n) e = refl

pub not-below : (z : ℤ) → lt_z z (pos 0) ≡ false → T (non_neg z)
not-below (pos n) e = tt
not-below (negsuc n) e = absurd (false≢true (sym e))

pub kept : (z : ℤ) → lt_z z (pos 0) ≡ false → nat_abs z ≡ nat z
unfolding nat
kept (pos n) e = refl
kept (negsuc n) e = absurd (false≢true (sym e))

-- a negative number is below nothing that is counted from 0, and any other is compared as it is
pub negative-outside : (z : ℤ) (n : ℕ) → lt_z z (pos 0) ≡ true → false ≡ is_below (pos n) z
negative-outside (pos c) n e = absurd (omega (arith, ltb-true c 0 e))
negative-outside (negsuc c) n e = refl

pub natural-inside : (z : ℤ) (n : ℕ) → lt_z z (pos 0) ≡ false → ltb (nat_abs z) n ≡ is_below (pos n) z
natural-inside (pos c) n e = rw (le-leb 0 c zero-le)
natural-inside (negsuc c) n e = absurd (false≢true (sym e))

-- an answer about a parameter, from what the call ensures and the branch that was taken
pub answered : {f a : Bool} (test : ℤ → Bool) (z : ℤ) → SFits w64 z → f ≡ test (back w64 z) → f ≡ a → test z ≡ a
answered test z fits e t = sym (read_of w64 test z fits e) ∙ t

-- a bound in range is read back as the number it is
pub bound-read : (z : ℤ) → nat_abs z ≤ 2147483647 → back w64 z ≡ z
bound-read z h = to_z-of_z w64 z (small-fits w64 z (omega arith))

-- what `natural` gives of a number that is below n is below n
pub below-natural : (z : ℤ) (n : ℕ) {r : ℕ} → SFits w64 z → r ≡ nat (back w64 z) → is_below (pos n) z ≡ true → r < n
unfolding nat
below-natural z n fits e h = omega (arith, read_of w64 nat z fits e, (below-is z (pos n) h).below)

pub answered-below : (z : ℤ) (n : ℕ) {f : Bool} {r : ℕ} → SFits w64 z → r ≡ nat (back w64 z) → f ≡ is_below (pos n) (back w64 z) → f ≡ true → r < n
answered-below z n fits h e t = below-natural z n fits h (answered (is_below (pos n)) z fits e t)
