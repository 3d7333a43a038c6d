-- The parts of a mapping and of a section with declared bounds are those of the one with bounds 0 whose elements sit on the same cells.
use Prim.Native.Nat.{ℕ, ◌-◌, ◌*◌}
use mathlib.Core.Path.{◌≡◌, refl, sym, ap, ◌∙◌}
use mathlib.Core.Bool.{Bool, true, false, cond, ◌&&◌, ◌||◌}
use mathlib.Core.List.{List, [], ◌++◌}
use lib.Dec.{ltb, eqb}
use lib.IntN.{ℤ, pos, nat_abs, neg_ℤ, ◌+ℤ◌, ◌-ℤ◌, ◌*ℤ◌, +ℤ_idl, +ℤ_idr, +ℤ_assoc, +ℤ_invl, neg_ℤ-+ℤ, neg_ℤ-neg_ℤ}
use lib.Signed.{le_z, quot_z}
use Rattle.model.specs.Mappings.{Dealing, cyclic, gen_block, Mapping, Section}
use Rattle.model.specs.declared.Layout.{Layout}
use Rattle.model.specs.Ownership.{nat, from_lower, declared_index, block_in, layout_of, cell_of, cell_owner_by, owner, owns, rank, held, back_to}
use Rattle.model.specs.Sections.{count_of, element_at, layout, count, index, address, owns_at, places, first_place}
use Rattle.model.specs.Steps.{spread, run_steps, run_next, steps_dealt, steps_of, cost_dealt, cost, next_dealt, next_place}
use Rattle.numbers.specs.Search.{passing, head_or}
use Rattle.model.specs.Questions.{Question, first_no, is_below, is_index, ends_fit, of_mapping, of_triplet, of_section, of_processor, of_index, of_address, is_place}
use Rattle.model.specs.Calls.{ownership, GoingBackAnswer, going_back, local_count, steps_report, no_report, section_steps, first_place_at, walk_of}
use Rattle.model.specs.Document01.{Lined}
use Rattle.model.specs.Shifted.{from_zero, section_from_zero, shifted_by, BothPass, BothIn}
use Rattle.model.proofs.BoundLaws.{swapped, exchanged, index-from}
use Rattle.model.proofs.QuestionLaws.{all_yes, asks-on}
use Rattle.model.proofs.ZeroBounds.{less_zero, first_cell}
use Rattle.model.proofs.LinedLaws.{lined_of, steps-lined, cost-lined, next-lined}

-- ---- a mapping

module _ (m : Mapping) where
  abbrev z : Mapping
  z = from_zero m

  layout-alike : layout_of m ≡ layout_of z
  unfolding layout_of
  layout-alike = λ i. record {
    cells = nat m.cells;
    processors = nat m.processors;
    block = nat (block_in m.dealing);
    stride = nat m.stride;
    offset = nat (first_cell m i);
    size = nat m.size;
  }

  pub owner-alike : owner m ≡ owner z
  unfolding owner
  owner-alike = ap (λ (l : Layout). λ (i : ℕ). cell_owner_by m.dealing l (cell_of l i)) layout-alike

  from-alike : (j : ℤ) → from_lower m j ≡ from_lower z (j -ℤ m.lower)
  unfolding from_lower
  from-alike j = ap nat (sym (less_zero (j -ℤ m.lower)))

  index-alike : (j : ℤ) → is_index m j ≡ is_index z (j -ℤ m.lower)
  index-alike j =
      index-from m j ∙ ap (is_below m.size) (sym (less_zero (j -ℤ m.lower))) ∙ sym (index-from z (j -ℤ m.lower))

  module _ (both : BothPass m) where
    pub asked-m : (rest : List Question) → first_no (of_mapping m ++ rest) ≡ first_no rest
    asked-m rest = asks-on (of_mapping m) rest (all_yes (of_mapping m) refl both.0)

    pub asked-z : (rest : List Question) → first_no (of_mapping z ++ rest) ≡ first_no rest
    asked-z rest = asks-on (of_mapping z) rest (all_yes (of_mapping z) refl both.1)

    pub ownership-alike : (j : ℤ) → ownership m j ≡ ownership z (j -ℤ m.lower)
    unfolding ownership first_no
    ownership-alike j =
        let e : first_no (of_mapping m ++ of_index m j) ≡ first_no (of_mapping z ++ of_index z (j -ℤ m.lower)) =
        asked-m (of_index m j) ∙ (λ i. cond (index-alike j i) 0 9) ∙ sym (asked-z (of_index z (j -ℤ m.lower))) in
        λ i. cond (eqb (e i) 0)
        (record { refusal = 0; processor = owner-alike i (from-alike j i); address = rank (owner-alike i) (from-alike j i) })
        (record { refusal = e i; processor = 0; address = 0 })

    -- question 8, and more that are answered alike
    eighth : (q : ℤ) (r r' : List Question) → first_no r ≡ first_no r'
        → first_no (of_mapping m ++ of_processor m q ++ r) ≡ first_no (of_mapping z ++ of_processor z q ++ r')
    unfolding first_no
    eighth q r r' e =
        asked-m (of_processor m q ++ r) ∙ (λ i. cond (is_below m.processors q) (e i) 8) ∙ sym (asked-z (of_processor z q ++ r'))

    pub going-back-alike : (q x : ℤ) → going_back m q x ≡ shifted_by m.lower (going_back z q x)
    unfolding going_back declared_index first_no
    going-back-alike q x =
        let n : ℕ = nat m.size in
        let e = eighth q (of_address m q x) (of_address z q x) (λ i. cond (is_below (pos (held (owner-alike i) n (nat q))) x) 0 9) in
        (λ i. found (e i) (m.lower +ℤ pos (back_to (owner-alike i) n (nat q) (nat x))))
        ∙ shifted (first_no (of_mapping z ++ of_processor z q ++ of_address z q x)) (back_to (owner z) n (nat q) (nat x))
      where
        found : ℕ → ℤ → GoingBackAnswer
        found e j = cond (eqb e 0) (record { refusal = 0; index = j }) (record { refusal = e; index = pos 0 })

        shifted : (e i : ℕ) → found e (m.lower +ℤ pos i) ≡ shifted_by m.lower (found e (pos 0 +ℤ pos i))
        shifted e i = go (eqb e 0) refl
          where
            go : (b : Bool) → eqb e 0 ≡ b → found e (m.lower +ℤ pos i) ≡ shifted_by m.lower (found e (pos 0 +ℤ pos i))
            go true p = rw p (ap (λ (k : ℤ). record { refusal = 0; index = m.lower +ℤ k }) (sym (+ℤ_idl (pos i))))
            go false p = rw p (rw p)

    pub local-count-alike : (q : ℤ) → local_count m q ≡ local_count z q
    unfolding local_count
    local-count-alike q =
        let e = eighth q [] [] refl in
        λ i. cond (eqb (e i) 0) (record { refusal = 0; elements = held (owner-alike i) (nat m.size) (nat q) })
        (record { refusal = e i; elements = 0 })

-- ---- a section

four : (a b c d : ℤ) → a +ℤ b +ℤ (c +ℤ d) ≡ a +ℤ c +ℤ (b +ℤ d)
four a b c d = sym (+ℤ_assoc (a +ℤ b) c d) ∙ ap (λ (k : ℤ). k +ℤ d) (exchanged a b c) ∙ +ℤ_assoc (a +ℤ c) b d

-- a distance is that of the numbers less l
same-distance : (h k l : ℤ) → h -ℤ k ≡ h -ℤ l -ℤ (k -ℤ l)
same-distance h k l =
    sym (ap (λ (d : ℤ). h -ℤ l +ℤ d) (neg_ℤ-+ℤ k (neg_ℤ l) ∙ ap (λ (d : ℤ). neg_ℤ k +ℤ d) (neg_ℤ-neg_ℤ l))
    ∙ four h (neg_ℤ l) (neg_ℤ k) l
    ∙ ap (λ (d : ℤ). h -ℤ k +ℤ d) (+ℤ_invl l)
    ∙ +ℤ_idr (h -ℤ k))

module _ (x : Section) where
  abbrev y : Section
  y = section_from_zero x

  moved : (t : ℕ) → element_at x.triplet t -ℤ x.mapping.lower ≡ element_at y.triplet t
  unfolding element_at
  moved t = swapped x.triplet.lower x.mapping.lower (pos t *ℤ x.triplet.stride)

  pub count-alike : count x ≡ count y
  unfolding count count_of
  count-alike =
      ap (λ (d : ℤ). nat (quot_z (d +ℤ x.triplet.stride) x.triplet.stride))
      (same-distance x.triplet.upper x.triplet.lower x.mapping.lower)

  -- both lie alike
  pub lined : lined_of x ≡ lined_of y
  unfolding layout index from_lower
  lined = λ i. record {
    layout = layout-alike x.mapping i;
    index = λ t. nat ((moved t ∙ sym (less_zero (element_at y.triplet t))) i);
    count = count-alike i;
    stride = x.triplet.stride;
  }

  at-alike : (t : ℕ) → index x t ≡ index y t
  at-alike t = ap (λ (v : Lined). v.index t) lined

  spread-alike : spread x ≡ spread y
  unfolding spread
  spread-alike = ap (λ (v : Lined). v.layout.stride * nat_abs x.triplet.stride) lined

  pub owns-alike : (q t : ℕ) → owns_at x q t ≡ owns_at y q t
  unfolding owns_at
  owns-alike q t = λ i. owns (owner-alike x.mapping i) q (at-alike t i)

  pub address-alike : (t : ℕ) → address x t ≡ address y t
  unfolding address
  address-alike t = λ i. rank (owner-alike x.mapping i) (at-alike t i)

  first_alike : (q : ℕ) → first_place x q ≡ first_place y q
  unfolding first_place places
  first_alike q = λ i. head_or (count-alike i) (passing (λ t. owns-alike q t i) 0 (count-alike i))

  pub place-alike : (q t : ℤ) → is_place x q t ≡ is_place y q t
  unfolding is_place
  place-alike q t = λ i.
      le_z (pos 0) t && (eqb (nat t) (count-alike i) || (ltb (nat t) (count-alike i) && owns-alike (nat q) (nat t) i))

  -- ---- steps and walk, by the dealing

  steps-dealt : (d : Dealing) → steps_dealt d x ≡ steps_dealt d y
  steps-dealt (cyclic k) = steps-lined x lined ∙ sym (steps-lined y refl)
  steps-dealt (gen_block sizes left) = λ i. run_steps (count-alike i) (spread-alike i)

  cost-dealt : (d : Dealing) (t : ℕ) → cost_dealt d x t ≡ cost_dealt d y t
  cost-dealt (cyclic k) t = cost-lined x lined t ∙ sym (cost-lined y refl t)
  cost-dealt (gen_block sizes left) t = refl

  next-dealt : (d : Dealing) (t : ℕ) → next_dealt d x t ≡ next_dealt d y t
  next-dealt (cyclic k) t = next-lined x lined t ∙ sym (next-lined y refl t)
  next-dealt (gen_block sizes left) t = λ i. run_next (λ u. owner-alike x.mapping i (at-alike u i)) (count-alike i) t

  steps_alike : steps_of x ≡ steps_of y
  unfolding steps_of
  steps_alike = steps-dealt x.mapping.dealing

  pub walk-alike : walk_of x ≡ walk_of y
  unfolding walk_of cost next_place
  walk-alike = λ i. record {
    address = λ t. address-alike t i;
    cost = λ t. cost-dealt x.mapping.dealing t i;
    next = λ t. next-dealt x.mapping.dealing t i;
    count = count-alike i;
    least = 3;
  }

  ends-alike : ends_fit x ≡ ends_fit y
  unfolding ends_fit
  ends-alike = λ i. eqb (count-alike i) 0 || (at 0 i && last i)
    where
      at : (t : ℕ) → is_index x.mapping (element_at x.triplet t) ≡ is_index y.mapping (element_at y.triplet t)
      at t = index-alike x.mapping (element_at x.triplet t) ∙ ap (is_index y.mapping) (moved t)

      last : is_index x.mapping (element_at x.triplet (count x - 1)) ≡ is_index y.mapping (element_at y.triplet (count y - 1))
      last = at (count x - 1) ∙ ap (λ (n : ℕ). is_index y.mapping (element_at y.triplet (n - 1))) count-alike

  -- questions 1 to 7, and more that are answered alike
  module _ (both : BothIn x) where
    pub asked-alike : (r r' : List Question) → first_no r ≡ first_no r' → first_no (of_section x ++ r) ≡ first_no (of_section y ++ r')
    unfolding first_no
    asked-alike r r' e =
        asked-m x.mapping both.0 (of_triplet x ++ r)
        ∙ (λ i. cond ((both.1 ∙ sym both.2) i) (cond (ends-alike i) (e i) 7) 6)
        ∙ sym (asked-z x.mapping both.0 (of_triplet y ++ r'))

    pub section-steps-alike : section_steps x ≡ section_steps y
    unfolding section_steps
    section-steps-alike =
        let e = asked-alike [] [] refl in
        λ i. cond (eqb (e i) 0) (steps_report (count-alike i) (steps_alike i))
        (record { refusal = e i; count = 0; steps = 0; first = no_report; second = no_report })

    pub first-place-alike : (q : ℤ) → first_place_at x q ≡ first_place_at y q
    unfolding first_place_at
    first-place-alike q =
        let e = asked-alike (of_processor x.mapping q) (of_processor y.mapping q) refl in
        λ i. cond (eqb (e i) 0) (record { refusal = 0; place = first_alike (nat q) i }) (record { refusal = e i; place = 0 })
