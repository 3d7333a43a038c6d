-- Sizes, differences and tests of signed numbers, and what the machine reads back of them. Assumes nothing.
use Prim.Native.Nat.{ℕ, zero, suc, ◌+◌, ◌-◌, ◌*◌, ◌/◌, ◌^◌, ◌≤◌, ◌<◌}
use mathlib.Core.Path.{◌≡◌, refl, sym, ap, ◌∙◌, subst}
use mathlib.Core.Bool.{Bool, true, false, cond, ◌&&◌, false≢true}
use native.Mathlib.Nat.{div-le_self}
use native.Mathlib.Omega.{arith}
use borrow.Author.Tests.{ltb-true, ltb-false, leb-true, le-ltb, le-leb, lt-leb}
use lib.Dec.{T, ltb}
use lib.IntN.{ℤ, pos, negsuc, neg_ℤ, nat_abs, ◌+ℤ◌, ◌-ℤ◌, ◌*ℤ◌, neg_ℤ-+ℤ, neg_ℤ-neg_ℤ, +ℤ_comm}
use lib.Signed.{quot_z, le_z, lt_z, non_neg, pos-nat_abs}
use mir.Syntax.{Width}
use mir.Val.{hbits, SFits, to_z, of_z}
use mir.ValLaws.{to_z-of_z}
use Rattle.numbers.proofs.Tests.{both_true}

-- ---- sizes
pub size-neg : (z : ℤ) → nat_abs (neg_ℤ z) ≡ nat_abs z
size-neg (pos zero) = refl
size-neg (pos (suc n)) = refl
size-neg (negsuc n) = refl

size-mixed : (t : Bool) (a b : ℕ) → nat_abs (cond t (negsuc (suc b - suc a)) (pos (a - suc b))) ≤ a + suc b
size-mixed true a b = omega arith
size-mixed false a b = omega arith

pub size-add : (y z : ℤ) → nat_abs (y +ℤ z) ≤ nat_abs y + nat_abs z
size-add (pos a) (pos b) = omega arith
size-add (pos a) (negsuc b) = size-mixed (ltb a (suc b)) a b
size-add (negsuc a) (pos b) = omega (arith, size-mixed (ltb b (suc a)) b a)
size-add (negsuc a) (negsuc b) = omega arith

pub size-sub : (y z : ℤ) → nat_abs (y -ℤ z) ≤ nat_abs y + nat_abs z
size-sub y z = omega (arith, size-add y (neg_ℤ z), size-neg z)

pub size-mul : (y z : ℤ) → nat_abs (y *ℤ z) ≡ nat_abs y * nat_abs z
size-mul (pos a) (pos b) = refl
size-mul (pos a) (negsuc b) = size-neg (pos (a * suc b))
size-mul (negsuc a) (pos b) = size-neg (pos (suc a * b))
size-mul (negsuc a) (negsuc b) = refl

pub size-quot : (y z : ℤ) → nat_abs (quot_z y z) ≡ nat_abs y / nat_abs z
size-quot (pos a) (pos b) = refl
size-quot (pos a) (negsuc b) = size-neg (pos (a / suc b))
size-quot (negsuc a) (pos b) = size-neg (pos (suc a / b))
size-quot (negsuc a) (negsuc b) = refl

pub size-quot-le : (y z : ℤ) → nat_abs (quot_z y z) ≤ nat_abs y
size-quot-le y z = omega (arith, size-quot y z, div-le_self (nat_abs y) (nat_abs z))

-- ---- differences
pub turned : (a b : ℤ) → b -ℤ a ≡ neg_ℤ (a -ℤ b)
turned a b = sym (neg_ℤ-+ℤ a (neg_ℤ b) ∙ ap (λ (z : ℤ). neg_ℤ a +ℤ z) (neg_ℤ-neg_ℤ b) ∙ +ℤ_comm (neg_ℤ a) b)

-- of natural numbers
pub minus : (a b : ℕ) → b ≤ a → pos a -ℤ pos b ≡ pos (a - b)
minus a zero h = ap pos (omega arith)
minus a (suc b) h = rw (le-ltb a (suc b) h)

not_negative : (a b : ℤ) → le_z a b ≡ true → T (non_neg (b -ℤ a))
not_negative (pos zero) (pos b) e = tt
not_negative (pos (suc a)) (pos b) e = rw (le-ltb b (suc a) (leb-true (suc a) b e)) tt
not_negative (pos (suc a)) (negsuc b) e = absurd (false≢true e)
not_negative (pos zero) (negsuc b) e = absurd (false≢true e)
not_negative (negsuc a) (pos b) e = tt
not_negative (negsuc a) (negsuc b) e =
    let h : suc b ≤ suc a = omega (arith, leb-true b a e) in
    rw (le-ltb (suc a) (suc b) h) tt

-- a is at most b: b - a is a natural number
pub rises : (a b : ℤ) → le_z a b ≡ true → b -ℤ a ≡ pos (nat_abs (b -ℤ a))
rises a b e = sym (pos-nat_abs (b -ℤ a) (not_negative a b e))

-- ---- tests

-- what `a < b` says where it holds, and where it fails
pub holds-le : (a b : ℤ) → lt_z a b ≡ true → le_z b a ≡ false
holds-le (pos a) (pos b) e = lt-leb b a (ltb-true a b e)
holds-le (pos a) (negsuc b) e = absurd (false≢true e)
holds-le (negsuc a) (pos b) e = refl
holds-le (negsuc a) (negsuc b) e = lt-leb a b (ltb-true b a e)

pub fails-le : (a b : ℤ) → lt_z a b ≡ false → le_z b a ≡ true
fails-le (pos a) (pos b) e = le-leb b a (ltb-false a b e)
fails-le (pos a) (negsuc b) e = refl
fails-le (negsuc a) (pos b) e = cc
fails-le (negsuc a) (negsuc b) e = le-leb a b (ltb-false b a e)

pub lt-le : (a b : ℤ) → lt_z a b ≡ true → le_z a b ≡ true
lt-le (pos a) (pos b) e = le-leb a b (omega (arith, ltb-true a b e))
lt-le (pos a) (negsuc b) e = absurd (false≢true e)
lt-le (negsuc a) (pos b) e = refl
lt-le (negsuc a) (negsuc b) e = le-leb b a (omega (arith, ltb-true b a e))

-- a signed number in a range that starts at 0 or above
pub record Ranged (low high : ℕ) (z : ℤ) : Type 0 where
  pub is : z ≡ pos (nat_abs z)
  pub from : low ≤ nat_abs z
  pub upto : nat_abs z ≤ high

pub ranged : (low high : ℕ) (z : ℤ) → (le_z (pos low) z && le_z z (pos high)) ≡ true → Ranged low high z
ranged low high (pos n) e =
    let w = both_true _ _ e in
    record { is = refl; from = leb-true low n w.0; upto = leb-true n high w.1 }
ranged low high (negsuc n) e = absurd (false≢true e)

-- a number that is 0 or more
pub natural : (z : ℤ) → le_z (pos 0) z ≡ true → z ≡ pos (nat_abs z)
natural (pos n) e = refl
natural (negsuc n) e = absurd (false≢true e)

-- ---- what the machine reads back of a signed number of w bits
abbrev pub back : Width → ℤ → ℤ
back w z = to_z w (of_z w z)

module _ (w : Width) where
  pub small-fits : (z : ℤ) → nat_abs z < 2 ^ hbits w → SFits w z
  small-fits (pos n) h = record { sfits = h }
  small-fits (negsuc n) h = record { sfits = omega arith }

  -- a number that was worked out from what is read back of z is worked out from z
  pub read_of : {A : Type 0} (f : ℤ → A) (z : ℤ) {r : A} → SFits w z → r ≡ f (back w z) → r ≡ f z
  read_of f z fits e = e ∙ ap f (to_z-of_z w z fits)

  -- m is a term of the code that stands for z, as back x +ℤ back y for x +ℤ y: it fits where z does, and z is read back of it
  module _ {m z : ℤ} (e : m ≡ z) (fits : SFits w z) where
    pub fits-as : SFits w m
    fits-as = subst (SFits w) (sym e) fits

    pub back_as : back w m ≡ z
    back_as = to_z-of_z w m fits-as ∙ e
