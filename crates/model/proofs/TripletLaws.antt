-- A triplet's count gives it exactly the elements that Fortran 95 does. Assumes nothing.
use Prim.Native.Nat.{ℕ, zero, suc, ◌+◌, ◌-◌, ◌*◌, ◌/◌, ◌≤◌, ◌<◌, zero-le}
use mathlib.Core.Path.{◌≡◌, refl, sym, ap, ◌∙◌}
use mathlib.Core.Logic.{◌↔◌}
use mathlib.Core.Bool.{Bool, true, false, cond, true≢false}
use native.Mathlib.Nat.{div-eq_of_lt, add-div_right, zero-div, zero-lt-suc, div-add-mod', mod-lt, mul-le-mul_right}
use native.Mathlib.Numerals.{add-one}
use native.Mathlib.Omega.{arith}
use lib.Dec.{leb, ltb}
use lib.IntN.{ℤ, pos, negsuc, neg_ℤ, sub_ℕ, ◌+ℤ◌, ◌-ℤ◌, ◌*ℤ◌, neg_ℤ-neg_ℤ, neg_ℤ-+ℤ, +ℤ_assoc, +ℤ_comm}
use lib.Signed.{le_z, non_neg, quot_z}
use native.Mathlib.Decide.{dec_le}
use borrow.Author.Tests.{leb-true, le-leb, lt-leb, ltb-true, ltb-false}
use Rattle.numbers.proofs.Division.{lt_of_mul}
use Rattle.model.specs.declared.Triplet.{Triplet}
use Rattle.model.specs.Ownership.{nat}
use Rattle.model.specs.Sections.{count_of, element_at}
use Rattle.model.specs.Demand2.{not_past, Fortran95}

-- ---- order by the sign of the difference

sub-sign : (a b : ℕ) → leb a b ≡ non_neg (sub_ℕ b a)
sub-sign a b = go (ltb b a) refl
  where
    go : (t : Bool) → ltb b a ≡ t → leb a b ≡ non_neg (cond t (negsuc (a - suc b)) (pos (b - a)))
    go true e = lt-leb a b (ltb-true b a e)
    go false e = le-leb a b (ltb-false b a e)

leb-suc : (a b : ℕ) → leb a b ≡ leb (suc a) (suc b)
leb-suc a b = elim (dec_le a b) [
  | yes h ↦ le-leb a b h ∙ sym (le-leb (suc a) (suc b) (omega arith))
  | no h ↦ lt-leb a b (omega arith) ∙ sym (lt-leb (suc a) (suc b) (omega arith))
]

le-sign : (a b : ℤ) → le_z a b ≡ non_neg (b -ℤ a)
le-sign (pos zero) (pos b) = le-leb 0 b zero-le
le-sign (pos (suc a)) (pos b) = sub-sign (suc a) b
le-sign (pos zero) (negsuc b) = sym (lt-leb (suc b) 0 (zero-lt-suc b)) ∙ sub-sign (suc b) 0
le-sign (pos (suc a)) (negsuc b) = refl
le-sign (negsuc a) (pos b) = refl
le-sign (negsuc a) (negsuc b) = leb-suc b a ∙ sub-sign (suc b) (suc a)

-- a sum's part may go to the other side
pub le_up : (l z h : ℤ) → le_z (l +ℤ z) h ≡ le_z z (h -ℤ l)
le_up l z h =
    le-sign (l +ℤ z) h ∙ ap (λ (w : ℤ). non_neg (h +ℤ w)) (neg_ℤ-+ℤ l z) ∙ ap non_neg (sym (+ℤ_assoc h (neg_ℤ l) (neg_ℤ z)))
    ∙ sym (le-sign z (h -ℤ l))

le_down : (l z h : ℤ) → le_z h (l -ℤ z) ≡ le_z z (l -ℤ h)
le_down l z h =
    le-sign h (l -ℤ z) ∙ ap non_neg (+ℤ_assoc l (neg_ℤ z) (neg_ℤ h) ∙ ap (λ (w : ℤ). l +ℤ w) (+ℤ_comm (neg_ℤ z) (neg_ℤ h)) ∙ sym (+ℤ_assoc l (neg_ℤ h) (neg_ℤ z)))
    ∙ sym (le-sign z (l -ℤ h))

-- ---- the count, by the distance d from l to h in walking direction

neg-nat : (n : ℕ) → nat (neg_ℤ (pos n)) ≡ 0
unfolding nat
neg-nat zero = refl
neg-nat (suc n) = refl

-- of a distance below 0 the quotient is not above 0
pub none : (m D : ℕ) → nat (quot_z (sub_ℕ (suc m) (suc D)) (pos (suc m))) ≡ 0
unfolding nat
none m D = go (ltb (suc m) (suc D))
  where
    go : (t : Bool) → nat (quot_z (cond t (negsuc (suc D - suc (suc m))) (pos (suc m - suc D))) (pos (suc m))) ≡ 0
    go true = neg-nat (suc (suc D - suc (suc m)) / suc m)
    go false = div-eq_of_lt (omega arith)

counted : (d : ℤ) (m t : ℕ) → (t < nat (quot_z (d +ℤ pos (suc m)) (pos (suc m)))) ↔ (le_z (pos (t * suc m)) d ≡ true)
unfolding nat
counted (pos D) m t = (to, from)
  where
    more : (D + suc m) / suc m ≡ suc (D / suc m)
    more = add-div_right D (zero-lt-suc m) ∙ add-one (D / suc m)

    to : t < (D + suc m) / suc m → leb (t * suc m) D ≡ true
    to h = le-leb (t * suc m) D (omega (arith, more, mul-le-mul_right {m = t} {n = D / suc m} (suc m) (omega (arith, more)), div-add-mod' D (suc m)))

    from : leb (t * suc m) D ≡ true → t < (D + suc m) / suc m
    from e =
        let l : t * suc m ≤ D = leb-true (t * suc m) D e in
        omega (arith, more, lt_of_mul t (suc (D / suc m)) (suc m) (omega (arith, div-add-mod' D (suc m), mod-lt D (zero-lt-suc m))))
counted (negsuc D) m t = (λ h. absurd (omega (arith, none m D)), λ e. absurd (true≢false (sym e)))

-- ---- both directions: the negative one is the positive one of the numbers with their signs changed

quot-neg : (a : ℤ) (m : ℕ) → quot_z (neg_ℤ a) (negsuc m) ≡ quot_z a (pos (suc m))
quot-neg (pos zero) m = ap (λ (n : ℕ). neg_ℤ (pos n)) (zero-div (suc m)) ∙ ap pos (sym (zero-div (suc m)))
quot-neg (pos (suc n)) m = refl
quot-neg (negsuc n) m = refl

pub mirrored : (l h : ℤ) (m : ℕ) → quot_z (h -ℤ l +ℤ negsuc m) (negsuc m) ≡ quot_z (l -ℤ h +ℤ pos (suc m)) (pos (suc m))
mirrored l h m =
    let d : neg_ℤ (l -ℤ h) ≡ h -ℤ l =
    neg_ℤ-+ℤ l (neg_ℤ h) ∙ ap (λ (z : ℤ). neg_ℤ l +ℤ z) (neg_ℤ-neg_ℤ h) ∙ +ℤ_comm (neg_ℤ l) h in
    ap (λ (z : ℤ). quot_z z (negsuc m)) (sym (neg_ℤ-+ℤ (l -ℤ h) (pos (suc m)) ∙ ap (λ (z : ℤ). z +ℤ negsuc m) d))
    ∙ quot-neg (l -ℤ h +ℤ pos (suc m)) m

held_by_lem : (l h s : ℤ) → (s ≡ pos 0 → ⊥) → (t : ℕ) → (t < nat (quot_z (h -ℤ l +ℤ s) s)) ↔ (not_past s h (l +ℤ pos t *ℤ s) ≡ true)
held_by_lem l h (pos zero) f t = absurd (f refl)
held_by_lem l h (pos (suc m)) f t = rw (le_up l (pos (t * suc m)) h) (counted (h -ℤ l) m t)
held_by_lem l h (negsuc m) f t = rw (mirrored l h m, le_down l (pos (t * suc m)) h) (counted (l -ℤ h) m t)

pub fortran95 : (x : Triplet) → (x.stride ≡ pos 0 → ⊥) → Fortran95 x
unfolding count_of element_at
fortran95 x f = record { elements = held_by_lem x.lower x.upper x.stride f }
