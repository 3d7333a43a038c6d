-- What answers to ownership, going back and local count say of one another, and how large their numbers are.
use Prim.Native.Nat.{ℕ, ◌^◌, ◌<◌}
use mathlib.Core.Path.{◌≡◌, refl, ◌∙◌}
use mathlib.Core.Bool.{Bool, true, false}
use mathlib.Core.List.{◌++◌}
use native.Mathlib.Omega.{arith}
use lib.Dec.{eqb}
use lib.IntN.{ℤ, pos, nat_abs, ◌-ℤ◌}
use borrow.Author.Tests.{eqb-true, eqb-false, eq-eqb}
use Rattle.model.specs.Mappings.{Mapping}
use Rattle.model.specs.Ownership.{nat, from_lower, declared_index, layout_of, owner, rank, held, back_to}
use Rattle.model.specs.Questions.{first_no, of_mapping, of_processor, of_index, of_address}
use Rattle.model.specs.Calls.{OwnershipAnswer, ownership, GoingBackAnswer, going_back, LocalCountAnswer, local_count}
use Rattle.model.specs.Demand2.{LeadsBack}
use Rattle.model.proofs.BoundLaws.{from-declared, declared-from}
use Rattle.model.proofs.QuestionLaws.{Below, all_yes, none-no, both_yes, asks-on, below-is, is_below_lem}
use Rattle.model.proofs.AcceptedLaws.{index_is, is-index, index-small, mapped}
use Rattle.model.proofs.AnsweredLaws.{answered}
use Rattle.model.proofs.AddressLaws.{rank_lt, back-rank, rank-back}
use Rattle.model.proofs.HeldLaws.{held-le}
use Rattle.model.proofs.Demand2Holds.{owner-lt}

module _ (m : Mapping) where
  abbrev size : ℕ
  size = (layout_of m).size

  -- ---- what an answer that is no refusal says

  pub record Owning (j : ℤ) : Type 0 where
    pub mapping : first_no (of_mapping m) ≡ 0
    pub index : from_lower m j < size
    pub back : declared_index m (from_lower m j) ≡ j
    pub is : ownership m j ≡ record { refusal = 0; processor = owner m (from_lower m j); address = rank (owner m) (from_lower m j) }

  -- what a yes to all questions says, as ownership asks them
  index_in : (j : ℤ) → first_no (of_mapping m ++ of_index m j) ≡ 0 → (first_no (of_mapping m) ≡ 0) × Below (j -ℤ m.lower) size
  index_in j none =
      let r = both_yes (of_mapping m) (of_index m j) refl none in
      (r.0, index_is m j (all_yes (of_index m j) refl r.1).0)

  pub owning : (j : ℤ) → (ownership m j).refusal ≡ 0 → Owning j
  unfolding ownership from_lower
  owning j e = go (eqb (first_no (of_mapping m ++ of_index m j)) 0) refl
    where
      go : (b : Bool) → eqb (first_no (of_mapping m ++ of_index m j)) 0 ≡ b → Owning j
      go true p =
          let r = index_in j (eqb-true _ 0 p) in
          record { mapping = r.0; index = r.1.below; back = declared-from m j r.1.whole; is = rw p }
      go false p = absurd (eqb-false (first_no (of_mapping m ++ of_index m j)) 0 p (rw p at e))

  pub record Leading (q x : ℤ) : Type 0 where
    pub mapping : first_no (of_mapping m) ≡ 0
    pub processor : Below q (layout_of m).processors
    pub address : Below x (held (owner m) size (nat q))
    pub is : going_back m q x ≡ record { refusal = 0; index = declared_index m (back_to (owner m) size (nat q) (nat x)) }

  -- and as going back does
  address-in : (q x : ℤ) → first_no (of_mapping m ++ of_processor m q ++ of_address m q x) ≡ 0
      → (first_no (of_mapping m) ≡ 0) × Below q (layout_of m).processors × Below x (held (owner m) size (nat q))
  unfolding layout_of nat
  address-in q x none =
      let r = both_yes (of_mapping m) (of_processor m q ++ of_address m q x) refl none in
      let a = all_yes (of_processor m q ++ of_address m q x) refl r.1 in
      (r.0, below-is q m.processors a.0, below-is x _ a.1.0)

  pub leading : (q x : ℤ) → (going_back m q x).refusal ≡ 0 → Leading q x
  unfolding going_back layout_of nat
  leading q x e = go (eqb (first_no (of_mapping m ++ of_processor m q ++ of_address m q x)) 0) refl
    where
      go : (b : Bool) → eqb (first_no (of_mapping m ++ of_processor m q ++ of_address m q x)) 0 ≡ b → Leading q x
      go true p =
          let r = address-in q x (eqb-true _ 0 p) in
          record { mapping = r.0; processor = r.1; address = r.2; is = rw p }
      go false p = absurd (eqb-false (first_no (of_mapping m ++ of_processor m q ++ of_address m q x)) 0 p (rw p at e))

  -- ---- there and back

  -- going back from an answer of ownership gives the index
  pub there_and_back : (j : ℤ) → (ownership m j).refusal ≡ 0
      → going_back m (pos (ownership m j).processor) (pos (ownership m j).address) ≡ record { refusal = 0; index = j }
  unfolding going_back layout_of nat
  there_and_back j e =
      let w = owning j e in
      let i : ℕ = from_lower m j in
      let rest = of_processor m (pos (owner m i)) ++ of_address m (pos (owner m i)) (pos (rank (owner m) i)) in
      let none : first_no (of_mapping m ++ rest) ≡ 0 =
      asks-on (of_mapping m) rest (all_yes (of_mapping m) refl w.mapping)
      ∙ none-no rest (
        is_below_lem (owner m i) m.processors (owner-lt m w.mapping i w.index),
        (is_below_lem (rank (owner m) i) (pos (held (owner m) size (owner m i))) (rank_lt (owner m) size (owner m i) i w.index refl), tt),
      ) in
      rw (w.is, eq-eqb (first_no (of_mapping m ++ rest)) 0 none, back-rank (owner m) size i w.index, w.back)

  -- ownership of an answer of going back gives processor and address
  pub back-and-there : (q x : ℤ) → (going_back m q x).refusal ≡ 0
      → ownership m (going_back m q x).index ≡ record { refusal = 0; processor = nat q; address = nat x }
  unfolding ownership
  back-and-there q x e =
      let w = leading q x e in
      let i : ℕ = back_to (owner m) size (nat q) (nat x) in
      let b : LeadsBack (owner m) size (nat q) (nat x) i = rank-back (owner m) size (nat q) (nat x) w.address.below in
      let j : ℤ = declared_index m i in
      let none : first_no (of_mapping m ++ of_index m j) ≡ 0 =
      asks-on (of_mapping m) (of_index m j) (all_yes (of_mapping m) refl w.mapping)
      ∙ none-no (of_index m j) (is-index m i b.inside, tt) in
      rw (w.is, eq-eqb (first_no (of_mapping m ++ of_index m j)) 0 none, from-declared m i, b.processor, b.address)

  -- ---- every number of an answer is below 2^31

  pub ownership-small : (j : ℤ) → ((ownership m j).refusal < 2 ^ 31) × ((ownership m j).processor < 2 ^ 31) × ((ownership m j).address < 2 ^ 31)
  unfolding ownership from_lower
  ownership-small j =
      answered (λ (a : OwnershipAnswer). (a.refusal < 2 ^ 31) × (a.processor < 2 ^ 31) × (a.address < 2 ^ 31))
      (of_mapping m ++ of_index m j) refl _ _
      (λ none.
      let r = index_in j none in
      let i : ℕ = nat (j -ℤ m.lower) in
      let s = mapped m r.0 in (
        omega arith,
        omega (arith, owner-lt m r.0 i r.1.below, s.processors-high),
        omega (arith, rank_lt (owner m) size (owner m i) i r.1.below refl, held-le (owner m) (owner m i) size),
      ))
      (λ low. omega arith)

  -- a declared index lies between the bounds, below 0 too
  pub going-back-small : (q x : ℤ) → ((going_back m q x).refusal < 2 ^ 31) × (nat_abs (going_back m q x).index < 2 ^ 31)
  unfolding going_back layout_of
  going-back-small q x =
      answered (λ (a : GoingBackAnswer). (a.refusal < 2 ^ 31) × (nat_abs a.index < 2 ^ 31))
      (of_mapping m ++ of_processor m q ++ of_address m q x) refl _ _
      (λ none.
      let r = address-in q x none in
      (omega arith, omega (arith, index-small m r.0 _ (rank-back (owner m) size (nat q) (nat x) r.2.below).inside)))
      (λ low. omega arith)

  pub local-count-small : (q : ℤ) → ((local_count m q).refusal < 2 ^ 31) × ((local_count m q).elements < 2 ^ 31)
  unfolding local_count layout_of
  local-count-small q =
      answered (λ (a : LocalCountAnswer). (a.refusal < 2 ^ 31) × (a.elements < 2 ^ 31)) (of_mapping m ++ of_processor m q) refl _ _
      (λ none.
      let r = both_yes (of_mapping m) (of_processor m q) refl none in
      (omega arith, omega (arith, held-le (owner m) (nat q) size, (mapped m r.0).size-high)))
      (λ low. omega arith)
