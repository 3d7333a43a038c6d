-- Declared indices: how they are counted from 0 and back, and the cells under them. Assumes nothing.
use Prim.Native.Nat.{ℕ, zero, suc, ◌-◌, ◌≤◌, zero-le}
use mathlib.Core.Path.{◌≡◌, refl, sym, ap, ◌∙◌}
use mathlib.Core.Bool.{◌&&◌}
use native.Mathlib.Omega.{arith}
use native.Mathlib.Decide.{dec_le}
use lib.IntN.{ℤ, pos, negsuc, neg_ℤ, pred_ℤ, ◌+ℤ◌, ◌-ℤ◌, ◌*ℤ◌, +ℤ-suc_ℤ, +ℤ_idr, -ℤ_one, +ℤ_assoc, +ℤ_comm, +ℤ-neg_ℤ_cancel, -ℤ-+ℤ_cancel}
use lib.IntN.{suc_ℤ, suc_ℤ-*ℤ, *ℤ-zero, *ℤ_comm}
use lib.Signed.{le_z, lt_z}
use borrow.Author.Tests.{le-leb, lt-leb, lt-ltb, le-ltb}
use Rattle.numbers.proofs.Signed.{minus}
use Rattle.model.specs.Mappings.{Mapping}
use Rattle.model.specs.Ownership.{nat, cell_under, last_index, from_lower, declared_index}
use Rattle.model.specs.Questions.{between, is_below, is_index}
use Rattle.model.proofs.TripletLaws.{le_up}

-- ---- sums and products of integers

-- the order of what is added, or taken off, is free
pub exchanged : (x y z : ℤ) → x +ℤ y +ℤ z ≡ x +ℤ z +ℤ y
exchanged x y z = +ℤ_assoc x y z ∙ ap (λ (w : ℤ). x +ℤ w) (+ℤ_comm y z) ∙ sym (+ℤ_assoc x z y)

pub swapped : (x y z : ℤ) → x +ℤ z -ℤ y ≡ x -ℤ y +ℤ z
swapped x y z = exchanged x z (neg_ℤ y)

-- what was added is taken off
pub taken-off : (l z : ℤ) → l +ℤ z -ℤ l ≡ z
taken-off l z = ap (λ (w : ℤ). w -ℤ l) (+ℤ_comm l z) ∙ +ℤ-neg_ℤ_cancel z l

pub put_back : (l z : ℤ) → l +ℤ (z -ℤ l) ≡ z
put_back l z = +ℤ_comm l (z -ℤ l) ∙ -ℤ-+ℤ_cancel z l

times_more : (a k : ℤ) (i : ℕ) → a *ℤ (k +ℤ pos i) ≡ a *ℤ k +ℤ a *ℤ pos i
times_more a k zero =
    ap (λ (z : ℤ). a *ℤ z) (+ℤ_idr k) ∙ sym (ap (λ (z : ℤ). a *ℤ k +ℤ z) (*ℤ-zero a) ∙ +ℤ_idr (a *ℤ k))
times_more a k (suc i) =
    ap (λ (z : ℤ). a *ℤ z) (+ℤ-suc_ℤ k (pos i))
    ∙ once_more (k +ℤ pos i)
    ∙ ap (λ (z : ℤ). z +ℤ a) (times_more a k i)
    ∙ +ℤ_assoc (a *ℤ k) (a *ℤ pos i) a
    ∙ sym (ap (λ (z : ℤ). a *ℤ k +ℤ z) (once_more (pos i)))
  where
    once_more : (z : ℤ) → a *ℤ suc_ℤ z ≡ a *ℤ z +ℤ a
    once_more z = *ℤ_comm a (suc_ℤ z) ∙ suc_ℤ-*ℤ z a ∙ ap (λ (w : ℤ). w +ℤ a) (*ℤ_comm z a)

-- ---- order

below-pred : (z n : ℤ) → lt_z z n ≡ le_z z (pred_ℤ n)
below-pred (pos a) (pos zero) = le-ltb a 0 zero-le
below-pred (pos a) (pos (suc n)) = elim (dec_le a n) [
  | yes h ↦ lt-ltb a (suc n) (omega arith) ∙ sym (le-leb a n h)
  | no h ↦ le-ltb a (suc n) (omega arith) ∙ sym (lt-leb a n (omega arith))
]
below-pred (pos a) (negsuc n) = refl
below-pred (negsuc a) (pos zero) = sym (le-leb 0 a zero-le)
below-pred (negsuc a) (pos (suc n)) = refl
below-pred (negsuc a) (negsuc n) = elim (dec_le (suc n) a) [
  | yes h ↦ lt-ltb n a h ∙ sym (le-leb (suc n) a h)
  | no h ↦ le-ltb n a (omega arith) ∙ sym (lt-leb (suc n) a (omega arith))
]

-- from l to l + n − 1 is from 0 to n − 1, less l
pub within-from : (l n j : ℤ) → between l (l +ℤ n -ℤ pos 1) j ≡ is_below n (j -ℤ l)
unfolding between
within-from l n j = λ i. low i && high i
  where
    low : le_z l j ≡ le_z (pos 0) (j -ℤ l)
    low = ap (λ (z : ℤ). le_z z j) (sym (+ℤ_idr l)) ∙ le_up l (pos 0) j

    last : l +ℤ n -ℤ pos 1 -ℤ l ≡ pred_ℤ n
    last = swapped (l +ℤ n) l (neg_ℤ (pos 1)) ∙ ap (λ (z : ℤ). z -ℤ pos 1) (taken-off l n) ∙ -ℤ_one n

    high : le_z j (l +ℤ n -ℤ pos 1) ≡ lt_z (j -ℤ l) n
    high =
        ap (λ (z : ℤ). le_z z (l +ℤ n -ℤ pos 1)) (sym (put_back l j))
        ∙ le_up l (j -ℤ l) (l +ℤ n -ℤ pos 1)
        ∙ ap (le_z (j -ℤ l)) last
        ∙ sym (below-pred (j -ℤ l) n)

-- ---- a mapping's indices

module _ (m : Mapping) where
  pub index-from : (j : ℤ) → is_index m j ≡ is_below m.size (j -ℤ m.lower)
  unfolding is_index last_index
  index-from j = within-from m.lower m.size j

  pub from-declared : (i : ℕ) → from_lower m (declared_index m i) ≡ i
  unfolding from_lower declared_index nat
  from-declared i = ap nat (taken-off m.lower (pos i))

  pub declared-from : (j : ℤ) → j -ℤ m.lower ≡ pos (from_lower m j) → declared_index m (from_lower m j) ≡ j
  unfolding declared_index
  declared-from j e = ap (λ (z : ℤ). m.lower +ℤ z) (sym e) ∙ put_back m.lower j

  -- the last index is n − 1 further on than the first
  pub last-declared : (n : ℕ) → m.size ≡ pos n → 1 ≤ n → last_index m ≡ declared_index m (n - 1)
  unfolding last_index declared_index
  last-declared n e h =
      +ℤ_assoc m.lower m.size (neg_ℤ (pos 1))
      ∙ ap (λ (z : ℤ). m.lower +ℤ z) (ap (λ (z : ℤ). z -ℤ pos 1) e ∙ minus n 1 h)

  -- element i sits a·i cells after the first
  pub cell-further : (i : ℕ) → cell_under m (declared_index m i) ≡ cell_under m m.lower +ℤ m.stride *ℤ pos i
  unfolding cell_under declared_index
  cell-further i =
      let a = m.stride *ℤ m.lower in
      let d = m.stride *ℤ pos i in
      ap (λ (z : ℤ). z +ℤ m.offset -ℤ m.origin)
      (times_more m.stride m.lower i)
      ∙ ap (λ (z : ℤ). z -ℤ m.origin) (exchanged a d m.offset)
      ∙ swapped (a +ℤ m.offset) m.origin d
