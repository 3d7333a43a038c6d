-- Questions 6 and 7 of a triplet on a layout, from the answers put one after the other.
use Prim.Native.Nat.{◌+◌, ◌-◌, ◌*◌, ◌≤◌, zero-le}
use mathlib.Core.Path.{◌≡◌, refl, sym, ap, ◌∙◌}
use mathlib.Core.Bool.{Bool, true, false, cond, ◌&&◌, ◌||◌}
use native.Mathlib.Nat.{div-le_of_le-mul, le-mul_of_pos_right, le_refl}
use native.Mathlib.Omega.{arith}
use lib.Dec.{eqb}
use borrow.Author.Tests.{le-leb}
use lib.IntN.{ℤ, pos, negsuc, nat_abs, ◌+ℤ◌, ◌-ℤ◌, ◌*ℤ◌, zero-*ℤ, +ℤ_idr}
use lib.Signed.{quot_z, le_z, non_neg}
use Rattle.numbers.proofs.Signed.{size-add, size-sub, size-quot}
use Rattle.model.specs.Mappings.{Section}
use Rattle.model.specs.Ownership.{nat, from_lower}
use Rattle.model.specs.declared.Triplet.{Triplet}
use Rattle.model.specs.Sections.{count_of, element_at, layout, count, index}
use Rattle.model.specs.Steps.{upward}
use Rattle.model.specs.Questions.{first_no, is_below, in_range, is_index, ends_fit, of_mapping, of_triplet}
use Rattle.model.proofs.BoundLaws.{index-from}
use Rattle.model.proofs.QuestionLaws.{all_yes, asks-on}
use Rattle.model.proofs.AcceptedLaws.{Ranged, ranged, whole-mapping}
use Rattle.std.specs.Prelude.{Ok, Err}
use Rattle.section.specs.Strides.{ends_in, strided_of}
use Rattle.section.specs.Answers.{asked_by, strided_in, asked_in, asked_of}

nat_le : (z : ℤ) → nat z ≤ nat_abs z
unfolding nat
nat_le (pos n) = le_refl n
nat_le (negsuc n) = zero-le

-- from l to h there are at most as many elements as numbers
module _ (x : Triplet) (ok : in_range x ≡ true) where
  r : Ranged x.lower x.upper x.stride
  r = ranged x ok

  pub count_small : count_of x ≤ 4294967295
  unfolding count_of
  count_small =
      let far : nat_abs (x.upper -ℤ x.lower +ℤ x.stride) ≤ nat_abs x.stride * (nat_abs (x.upper -ℤ x.lower) + 1) =
      omega (arith, size-add (x.upper -ℤ x.lower) x.stride, le-mul_of_pos_right (nat_abs (x.upper -ℤ x.lower)) r.some) in
      omega (
        arith,
        nat_le (quot_z (x.upper -ℤ x.lower +ℤ x.stride) x.stride),
        size-quot (x.upper -ℤ x.lower +ℤ x.stride) x.stride,
        div-le_of_le-mul (nat_abs x.stride) far,
        size-sub x.upper x.lower,
        r.lower,
        r.upper,
      )

first-element : (l s : ℤ) → l +ℤ pos 0 *ℤ s ≡ l
first-element l s = ap (λ (z : ℤ). l +ℤ z) (zero-*ℤ s) ∙ +ℤ_idr l

up-sign : (s : ℤ) → le_z (pos 0) s ≡ non_neg s
up-sign (pos n) = le-leb 0 n zero-le
up-sign (negsuc n) = refl

-- the answers to questions 6 and 7 are those of a section whose mapping passed
module _ (x : Section) (ok : first_no (of_mapping x.mapping) ≡ 0) where
  abbrev l : ℤ
  l = x.triplet.lower

  abbrev s : ℤ
  s = x.triplet.stride

  index_below : (j : ℤ) → is_index x.mapping j ≡ is_below (pos (layout x).size) (j -ℤ x.mapping.lower)
  unfolding layout
  index_below j = index-from x.mapping j ∙ (λ i. is_below ((whole-mapping x.mapping ok).size i) (j -ℤ x.mapping.lower))

  ends_same : ends_fit x ≡ ends_in (layout x).size x.mapping.lower l s (count x)
  unfolding ends_fit element_at
  ends_same =
      let first : is_index x.mapping (l +ℤ pos 0 *ℤ s) ≡ is_below (pos (layout x).size) (l -ℤ x.mapping.lower) =
      ap (is_index x.mapping) (first-element l s) ∙ index_below l in
      λ i. eqb (count x) 0 || (first i && index_below (l +ℤ pos (count x - 1) *ℤ s) i)

  strided-same : strided_in (layout x) x.mapping.lower x.triplet ≡ strided_of x
  unfolding strided_of count index element_at from_lower upward
  strided-same =
      let first : nat (l -ℤ x.mapping.lower) ≡ nat (l +ℤ pos 0 *ℤ s -ℤ x.mapping.lower) =
      ap (λ (z : ℤ). nat (z -ℤ x.mapping.lower)) (sym (first-element l s)) in
      λ i. record { layout = layout x; count = count x; first = record { 0 = first i }; stride = nat_abs s; upward = up-sign s i }

  decided : (ranged ends : Bool) → cond ranged (cond ends (Ok (strided_of x)) (Err 7)) (Err 6) ≡ asked_by x (cond ranged (cond ends 0 7) 6)
  decided true true = refl
  decided true false = refl
  decided false ends = refl

  pub go_on : asked_in (layout x) x.mapping.lower x.triplet ≡ asked_of x
  unfolding asked_in asked_of first_no count
  go_on =
      (λ i. cond (in_range x.triplet) (cond (sym ends_same i) (Ok (strided-same i)) (Err 7)) (Err 6))
      ∙ decided (in_range x.triplet) (ends_fit x)
      ∙ ap (asked_by x) (sym (asks-on (of_mapping x.mapping) (of_triplet x) (all_yes (of_mapping x.mapping) refl ok)))
