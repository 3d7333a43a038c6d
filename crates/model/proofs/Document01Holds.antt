-- Of a cyclic template with both bounds 0, b of 0 or more and a up to the limit every answer is document 01's. Assumes nothing.
use Prim.Native.Nat.{ℕ, ◌-◌}
use mathlib.Core.Path.{◌≡◌, refl, sym, ap, ◌∙◌}
use mathlib.Core.Bool.{Bool, true, false, cond, ◌&&◌, ◌||◌, true≢false}
use mathlib.Core.List.{List, [], ◌∷◌, ◌++◌}
use native.Mathlib.Omega.{arith}
use lib.Dec.{eqb}
use lib.IntN.{ℤ, pos, negsuc, ◌+ℤ◌, ◌-ℤ◌, ◌*ℤ◌, +ℤ_idl, *ℤ-zero}
use lib.ListN.{length}
use lib.Signed.{le_z, lt_z}
use borrow.Author.Tests.{leb-true, le-leb}
use Rattle.numbers.specs.Search.{passing}
use Rattle.model.specs.Mappings.{Mapping, Section}
use Rattle.model.specs.Ownership.{nat, cell_under, last_index, from_lower, declared_index, block_in, layout_of, owner_of, owner, rank, held, back_to}
use Rattle.model.specs.Sections.{element_at, layout, count, index, address}
use Rattle.model.specs.Filling.{answer}
use Rattle.model.specs.Questions.{Question, ask, first_no, between, block_fits, runs_fit, is_below, most, least, most_stride, bounds_fit, cells_fit, of_mapping, is_index, in_range, ends_fit}
use Rattle.model.specs.Questions.{of_section, of_processor, of_index, of_address, of_quota}
use Rattle.model.specs.Calls.{ownership, going_back, local_count, steps_report, no_report, section_steps, first_place_at, FillCall, of_fill, request_of, fill}
use Rattle.model.specs.Transfers.{TransferCall, is_entry, pair_places, places_of, of_counts, of_room, entries_of, of_transfer, transfers, with_entries, lists_after}
use Rattle.model.specs.Document01.{plain_layout, plain_lined, plain_cells, plain_mapping, plain_ends, plain_section, plain_place}
use Rattle.model.specs.Document01.{plain_ownership, plain_going_back, plain_local_count, plain_steps, plain_first_place, plain_fill}
use Rattle.model.specs.Document01.{address_in, plain_pairs, plain_places, plain_transfer, plain_transfers, plain_lists_after, Plain, AsDocument01}
use Rattle.model.proofs.BoundLaws.{index-from}
use Rattle.model.proofs.QuestionLaws.{between_is}
use Rattle.model.proofs.ZeroBounds.{less_zero, zero-bounds}
use Rattle.model.proofs.LinedLaws.{lined_of, owns-lined, address-lined, first-lined, place-lined, steps-dealt, walk-lined}
use Rattle.model.proofs.Walking.{owner-cyclic}

-- ---- lists of questions

-- the first no of questions 1 to 5 and 15, 16 answered yes, and of document 01's 1 to 5, by their answers and what follows
abbrev bounded : Bool → Bool → Bool → Bool → Bool → Bool → Bool → ℕ → ℕ
bounded t p k a n b c r = cond t (cond p (cond k (cond true (cond a (cond n (cond b (cond c r 5) 15) 5) 4) 16) 3) 2) 1

abbrev plain : Bool → Bool → Bool → Bool → Bool → Bool → ℕ → ℕ
plain t p k a n c r = cond t (cond p (cond k (cond a (cond (n && c) r 5) 4) 3) 2) 1

-- they are one where the sizes decide 15
without-15 : (t p k a n b c : Bool) (r : ℕ) → (t ≡ true → n ≡ true → b ≡ true) → bounded t p k a n b c r ≡ plain t p k a n c r
without-15 false p k a n b c r h = refl
without-15 true p k a false b c r h = refl
without-15 true p k a true b c r h = rw (h refl refl)

-- what follows alike leaves the first no alike
same_after : (xs r r' : List Question) → first_no r ≡ first_no r' → first_no (xs ++ r) ≡ first_no (xs ++ r')
unfolding first_no
same_after [] r r' e = e
same_after (x ∷ xs) r r' e = λ i. cond x.holds (same_after xs r r' e i) x.number

small-stride : (a : ℤ) → le_z a (pos most_stride) ≡ true → between (pos 1) (pos most_stride) a ≡ between (pos 1) most a
unfolding between
small-stride (pos n) e = rw (e, le-leb n 2147483647 (omega (arith, leb-true n most_stride e)))
small-stride (negsuc n) e = refl

natural-offset : (b : ℤ) → le_z (pos 0) b ≡ true → between least most b ≡ between (pos 0) most b
unfolding between
natural-offset (pos n) e = sym (rw e)
natural-offset (negsuc n) e = absurd (true≢false (sym e))

-- ---- a mapping

module _ (m : Mapping) (p : Plain m) where
  -- nothing is taken off, and nothing added
  less-lower : (j : ℤ) → j -ℤ m.lower ≡ j
  less-lower j = ap (λ (z : ℤ). j -ℤ z) p.lower ∙ less_zero j

  cell-plain : (j : ℤ) → cell_under m j ≡ m.stride *ℤ j +ℤ m.offset
  unfolding cell_under
  cell-plain j = ap (λ (z : ℤ). m.stride *ℤ j +ℤ m.offset -ℤ z) p.origin ∙ less_zero (m.stride *ℤ j +ℤ m.offset)

  first_plain : cell_under m m.lower ≡ m.offset
  first_plain =
      cell-plain m.lower ∙ ap (λ (z : ℤ). m.stride *ℤ z +ℤ m.offset) p.lower
      ∙ ap (λ (z : ℤ). z +ℤ m.offset) (*ℤ-zero m.stride) ∙ +ℤ_idl m.offset

  layout-plain : layout_of m ≡ plain_layout m
  unfolding layout_of
  layout-plain = λ i. record {
    cells = nat m.cells;
    processors = nat m.processors;
    block = nat (block_in m.dealing);
    stride = nat m.stride;
    offset = nat (first_plain i);
    size = nat m.size;
  }

  owner-plain : owner m ≡ owner_of (plain_layout m)
  owner-plain = owner-cyclic m p.dealing ∙ ap owner_of layout-plain

  from-plain : (j : ℤ) → from_lower m j ≡ nat j
  unfolding from_lower
  from-plain j = ap nat (less-lower j)

  index-plain : (j : ℤ) → is_index m j ≡ is_below m.size j
  index-plain j = index-from m j ∙ ap (is_below m.size) (less-lower j)

  cells-plain : cells_fit m ≡ plain_cells m
  unfolding cells_fit last_index
  cells-plain =
      let last : cell_under m (m.lower +ℤ m.size -ℤ pos 1) ≡ m.stride *ℤ (m.size -ℤ pos 1) +ℤ m.offset =
      cell-plain (m.lower +ℤ m.size -ℤ pos 1)
      ∙ ap (λ (z : ℤ). m.stride *ℤ (z -ℤ pos 1) +ℤ m.offset) (ap (λ (z : ℤ). z +ℤ m.size) p.lower ∙ +ℤ_idl m.size) in
      λ i. lt_z m.size (pos 1) || ((ap (le_z (pos 0)) first_plain ∙ p.offset) i && lt_z (last i) m.cells)

  -- 3 is about the block, and 16 answered yes
  dealt : (t q : Bool) (r : ℕ)
      → cond t (cond q (cond (block_fits m.dealing) (cond (runs_fit m.cells m.processors m.dealing) r 16) 3) 2) 1
      ≡ cond t (cond q (cond (between (pos 1) (pos 65536) (block_in m.dealing)) r 3) 2) 1
  dealt t q r =
      let e = p.dealing in
      (λ i. cond t (cond q (cond (block_fits (e i)) (cond (runs_fit m.cells m.processors (e i)) r 16) 3) 2) 1)
      ∙ sym (λ i. cond t (cond q (cond (between (pos 1) (pos 65536) (block_in (e i))) r 3) 2) 1)

  -- the questions about the mapping, and whatever follows
  pub asked-plain : (r : List Question) → first_no (of_mapping m ++ r) ≡ first_no (plain_mapping m ++ r)
  unfolding first_no
  asked-plain r =
      let t = between (pos 1) most m.cells in
      let q = between (pos 1) (pos 1024) m.processors in
      let k = between (pos 1) (pos 65536) (block_in m.dealing) in
      let a = between (pos 1) most m.stride in
      let n = between (pos 0) most m.size in
      dealt t q (cond (between (pos 1) (pos most_stride) m.stride && between least most m.offset) (cond n (cond (bounds_fit m) (cond (cells_fit m) (first_no r) 5) 15) 5) 4)
      ∙ (λ i. bounded t q k (small-stride m.stride p.stride i && natural-offset m.offset p.offset i) n (bounds_fit m) (cells-plain i) (first_no r))
      ∙ without-15 t q k (a && between (pos 0) most m.offset) n (bounds_fit m) (plain_cells m) (first_no r)
      (λ e f. zero-bounds m p.lower p.origin (between_is 1 2147483647 m.cells e) (between_is 0 2147483647 m.size f))

  pub ownership-plain : (j : ℤ) → ownership m j ≡ plain_ownership m j
  unfolding ownership first_no
  ownership-plain j =
      let e : first_no (of_mapping m ++ of_index m j) ≡ first_no (plain_mapping m ++ ask 9 (is_below m.size j) ∷ []) =
      (λ i. first_no (of_mapping m ++ ask 9 (index-plain j i) ∷ [])) ∙ asked-plain (ask 9 (is_below m.size j) ∷ []) in
      λ i. cond (eqb (e i) 0)
      (record { refusal = 0; processor = owner-plain i (from-plain j i); address = rank (owner-plain i) (from-plain j i) })
      (record { refusal = e i; processor = 0; address = 0 })

  pub going-back-plain : (q x : ℤ) → going_back m q x ≡ plain_going_back m q x
  unfolding going_back declared_index
  going-back-plain q x =
      let n : ℕ = nat m.size in
      let has : ℕ → List Question = λ h. ask 9 (is_below (pos h) x) ∷ [] in
      let h = held (owner_of (plain_layout m)) n (nat q) in
      let e : first_no (of_mapping m ++ of_processor m q ++ of_address m q x) ≡ first_no (plain_mapping m ++ of_processor m q ++ has h) =
      (λ i. first_no (of_mapping m ++ of_processor m q ++ has (held (owner-plain i) n (nat q)))) ∙ asked-plain (of_processor m q ++ has h) in
      let found = ap (λ (z : ℤ). z +ℤ pos (back_to (owner_of (plain_layout m)) n (nat q) (nat x))) p.lower ∙ +ℤ_idl (pos (back_to (owner_of (plain_layout m)) n (nat q) (nat x))) in
      let index : m.lower +ℤ pos (back_to (owner m) n (nat q) (nat x)) ≡ pos (back_to (owner_of (plain_layout m)) n (nat q) (nat x)) =
      (λ i. m.lower +ℤ pos (back_to (owner-plain i) n (nat q) (nat x))) ∙ found in
      λ i. cond (eqb (e i) 0) (record { refusal = 0; index = index i }) (record { refusal = e i; index = pos 0 })

  pub local-count-plain : (q : ℤ) → local_count m q ≡ plain_local_count m q
  unfolding local_count
  local-count-plain q =
      let e = asked-plain (of_processor m q) in
      λ i. cond (eqb (e i) 0) (record { refusal = 0; elements = held (owner-plain i) (nat m.size) (nat q) })
      (record { refusal = e i; elements = 0 })

-- ---- a section

module _ (x : Section) (p : Plain x.mapping) where
  pub lined-plain : lined_of x ≡ plain_lined x
  unfolding layout index
  lined-plain = λ i. record {
    layout = layout-plain x.mapping p i;
    index = λ t. from-plain x.mapping p (element_at x.triplet t) i;
    count = count x;
    stride = x.triplet.stride;
  }

  address_plain : (t : ℕ) → address x t ≡ address_in (plain_lined x) t
  address_plain = address-lined x p.dealing lined-plain

  ends-plain : ends_fit x ≡ plain_ends x
  unfolding ends_fit
  ends-plain =
      let at : (t : ℕ) → is_index x.mapping (element_at x.triplet t) ≡ is_below x.mapping.size (element_at x.triplet t) =
      λ t. index-plain x.mapping p (element_at x.triplet t) in
      λ i. eqb (count x) 0 || (at 0 i && at (count x - 1) i)

  pub section-plain : (r : List Question) → first_no (of_section x ++ r) ≡ first_no (plain_section x ++ r)
  section-plain r =
      (λ i. first_no (of_mapping x.mapping ++ ask 6 (in_range x.triplet) ∷ ask 7 (ends-plain i) ∷ r))
      ∙ asked-plain x.mapping p (ask 6 (in_range x.triplet) ∷ ask 7 (plain_ends x) ∷ r)

  pub steps-plain : section_steps x ≡ plain_steps x
  unfolding section_steps
  steps-plain =
      let e = section-plain [] in
      λ i. cond (eqb (e i) 0) (steps_report (count x) (steps-dealt x p.dealing lined-plain i))
      (record { refusal = e i; count = 0; steps = 0; first = no_report; second = no_report })

  pub first-place-plain : (q : ℤ) → first_place_at x q ≡ plain_first_place x q
  unfolding first_place_at
  first-place-plain q =
      let e = section-plain (of_processor x.mapping q) in
      λ i. cond (eqb (e i) 0) (record { refusal = 0; place = first-lined x p.dealing lined-plain (nat q) i }) (record { refusal = e i; place = 0 })

pub fill-plain : (c : FillCall) → Plain c.section.mapping → fill c ≡ plain_fill c
unfolding fill request_of
fill-plain c p =
    let x = c.section in
    let v = lined-plain x p in
    let rest : Bool → List Question = λ b. of_processor x.mapping c.processor ++ ask 10 b ∷ of_quota c.quota in
    let e : first_no (of_fill c) ≡ first_no (plain_section x ++ of_processor x.mapping c.processor ++ plain_place x c.processor c.place ++ of_quota c.quota) =
    (λ i. first_no (of_section x ++ rest (place-lined x p.dealing v c.processor c.place i))) ∙ section-plain x p _ in
    λ i. answer (walk-lined x p.dealing v i) (record { refusal = e i; place = nat c.place; quota = nat c.quota; list = c.list })

-- ---- transfers

pairs-plain : (left right : Section) → Plain left.mapping → Plain right.mapping → (q m : ℕ)
    → pair_places left right q m ≡ plain_pairs left right q m
unfolding pair_places is_entry
pairs-plain left right l r q m = λ i.
    passing (λ t. owns-lined right r.dealing (lined-plain right r) q t i && owns-lined left l.dealing (lined-plain left l) m t i) 0 (count left)

module _ (c : TransferCall) (l : Plain c.left.mapping) (r : Plain c.right.mapping) where
  places_same : places_of c ≡ plain_places c
  places_same = pairs-plain c.left c.right l r (nat c.sender) (nat c.receiver)

  asked-transfer : first_no (of_transfer c) ≡ first_no (plain_transfer c (length (plain_places c)))
  unfolding entries_of
  asked-transfer =
      let tail : List Question =
      of_processor c.right.mapping c.sender ++ of_processor c.left.mapping c.receiver
      ++ of_counts (count c.left) (count c.right) ++ of_room (entries_of c) c.lists in
      section-plain c.left l (of_section c.right ++ tail)
      ∙ same_after (plain_section c.left) _ _ (section-plain c.right r tail)
      ∙ (λ i. first_no (plain_transfer c (length (places_same i))))

  pub transfers-plain : (transfers c ≡ plain_transfers c) × (lists_after c ≡ plain_lists_after c)
  unfolding transfers entries_of lists_after
  transfers-plain = (
    λ i. cond (eqb (asked-transfer i) 0) (record { refusal = 0; entries = length (places_same i); needed = 0 })
        (record { refusal = asked-transfer i; entries = 0; needed = cond (eqb (asked-transfer i) 13) (length (places_same i)) 0 }),
    λ i. cond (eqb (asked-transfer i) 0)
        (with_entries (places_same i) (λ t. address_plain c.right r t i) (λ t. address_plain c.left l t i) c.lists) c.lists,
  )

pub as-document-01 : AsDocument01
as-document-01 = record {
  of-ownership = ownership-plain;
  of-going-back = going-back-plain;
  of-local-count = local-count-plain;
  of-section-steps = steps-plain;
  of-first-place = first-place-plain;
  of-fill = fill-plain;
  of-transfers = transfers-plain;
}
