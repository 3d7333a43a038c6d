-- What a yes to every question says of a mapping's numbers, and of a section's.
use Prim.Native.Nat.{ℕ, zero, suc, ◌+◌, ◌-◌, ◌*◌, ◌^◌, ◌≤◌, ◌<◌}
use mathlib.Core.Path.{◌≡◌, refl, sym, ap, ◌∙◌}
use mathlib.Core.Bool.{Bool, true, false, not, ◌&&◌, ◌||◌}
use native.Mathlib.Nat.{mul-le-mul_left}
use native.Mathlib.Omega.{arith}
use mathlib.Core.List.{List}
use lib.Dec.{ltb, eqb}
use lib.IntN.{ℤ, pos, negsuc, nat_abs, ◌+ℤ◌, ◌-ℤ◌, ◌*ℤ◌}
use lib.Signed.{le_z, lt_z}
use borrow.Author.Tests.{ltb-true, ltb-false, le-ltb, eqb-false, ne_eqb, not-true}
use Rattle.numbers.proofs.Division.{product_le}
use Rattle.numbers.proofs.Signed.{size-add, size-sub, size-mul}
use Rattle.numbers.proofs.Tests.{both_true}
use Rattle.model.specs.Mappings.{Dealing, cyclic, gen_block, Mapping, Section}
use Rattle.model.specs.declared.Triplet.{Triplet}
use Rattle.model.specs.Ownership.{nat, cell_under, last_index, last_cell, declared_index, block_in, layout_of, cell_of}
use Rattle.model.specs.Sections.{element_at, layout, count}
use Rattle.model.specs.Sized.{Sized}
use Rattle.model.specs.Questions.{first_no, AllYes, between, is_below, most, least, most_stride, block_fits, sizes_fit, runs_fit, bounds_fit, cells_fit, of_mapping}
use Rattle.model.specs.Questions.{is_index, in_range, ends_fit, of_triplet, of_section}
use Rattle.model.proofs.BoundLaws.{taken-off, index-from, last-declared, cell-further}
use Rattle.model.proofs.QuestionLaws.{all_yes, both_yes, natural-le, Natural, size-upto, between_is, size_is, Below, below-is, not-below, is_below_lem}

-- ---- a mapping

abbrev pub Mapped : Mapping → Type 0
Mapped m = Sized (layout_of m)

-- what a yes to question 15 says
pub record Bounds (m : Mapping) : Type 0 where
  pub lower : nat_abs m.lower ≤ 2147483647
  pub origin : nat_abs m.origin ≤ 2147483647
  pub last : lt_z m.size (pos 1) ≡ false → nat_abs (last_index m) ≤ 2147483647

pub bounds_of : (m : Mapping) → bounds_fit m ≡ true → Bounds m
unfolding bounds_fit
bounds_of m e =
    let a = between least most m.lower in
    let b = between least most m.origin in
    let c = between least most (last_cell m) in
    let d = between least most (last_index m) in
    let two = both_true (a && b && c) (lt_z m.size (pos 1) || d) e in
    let ab : (a && b) ≡ true = (both_true (a && b) c two.0).0 in
    record {
      lower = size_is m.lower (both_true a b ab).0;
      origin = size_is m.origin (both_true a b ab).1;
      last = λ f. size_is (last_index m) (rw f at two.1);
    }

-- the integers of an accepted mapping are those of its layout
pub record Whole (m : Mapping) : Type 0 where
  pub cells : m.cells ≡ pos (layout_of m).cells
  pub processors : m.processors ≡ pos (layout_of m).processors
  pub block : block_in m.dealing ≡ pos (layout_of m).block
  pub stride : m.stride ≡ pos (layout_of m).stride
  pub size : m.size ≡ pos (layout_of m).size

-- an array with elements: the first one's cell is a natural number, and the last one's is below T
pub record CellsIn (m : Mapping) : Type 0 where
  pub first : cell_under m m.lower ≡ pos (layout_of m).offset
  pub last : (layout_of m).stride * ((layout_of m).size - 1) + (layout_of m).offset < (layout_of m).cells

module _ (m : Mapping) (ok : first_no (of_mapping m) ≡ 0) where
  yes-all : AllYes (of_mapping m)
  yes-all = all_yes (of_mapping m) refl ok

  cells_in : Natural m.cells 1 2147483647
  cells_in = between_is 1 2147483647 m.cells yes-all.0

  processors-in : Natural m.processors 1 1024
  processors-in = between_is 1 1024 m.processors yes-all.1.0

  block_in_lem : Natural (block_in m.dealing) 1 65536
  unfolding nat
  block_in_lem = go m.dealing yes-all.1.1.0
    where
      go : (d : Dealing) → block_fits d ≡ true → Natural (block_in d) 1 65536
      go (cyclic k) e = between_is 1 65536 k e
      go (gen_block sizes left) e = record { whole = refl; from = omega arith; upto = omega arith }

  -- the sizes of a GEN_BLOCK template passed question 16
  sizes-in : runs_fit m.cells m.processors m.dealing ≡ true
  sizes-in = yes-all.1.1.1.0

  pub runs-in : {sizes : List ℤ} {left : ℕ} → m.dealing ≡ gen_block sizes left → sizes_fit m.cells m.processors sizes left ≡ true
  runs-in d = rw d at sizes-in

  pub stride-in : Natural m.stride 1 most_stride
  stride-in = between_is 1 most_stride m.stride (both_true (between (pos 1) (pos most_stride) m.stride) (between least most m.offset) yes-all.1.1.1.1.0).0

  size_in : Natural m.size 0 2147483647
  size_in = between_is 0 2147483647 m.size yes-all.1.1.1.1.1.0

  pub whole-mapping : Whole m
  unfolding layout_of
  whole-mapping =
      record {
        cells = cells_in.whole;
        processors = processors-in.whole;
        block = block_in_lem.whole;
        stride = stride-in.whole;
        size = size_in.whole;
      }

  pub bounds-in : Bounds m
  bounds-in = bounds_of m yes-all.1.1.1.1.1.1.0

  pub offset-small : nat_abs m.offset ≤ 2147483647
  offset-small =
      size_is m.offset (both_true (between (pos 1) (pos most_stride) m.stride) (between least most m.offset) yes-all.1.1.1.1.0).1

  -- an array with elements
  some_in : 1 ≤ (layout_of m).size → lt_z m.size (pos 1) ≡ false
  unfolding layout_of
  some_in h = ap (λ (z : ℤ). lt_z z (pos 1)) size_in.whole ∙ le-ltb (nat m.size) 1 h

  pub cells_fit_lem : 1 ≤ (layout_of m).size → CellsIn m
  unfolding layout_of cells_fit nat
  cells_fit_lem h =
      let first = le_z (pos 0) (cell_under m m.lower) in
      let last = lt_z (cell_under m (last_index m)) m.cells in
      let both = both_true first last (rw (some_in h) at yes-all.1.1.1.1.1.1.1.0) in
      let f = not-below (cell_under m m.lower) both.0 in
      let n : ℕ = nat m.size in
      let far : cell_under m (last_index m) ≡ pos (nat (cell_under m m.lower) + nat m.stride * (n - 1)) =
      ap (cell_under m) (last-declared m n size_in.whole h) ∙ cell-further m (n - 1)
      ∙ (λ i. f i +ℤ stride-in.whole i *ℤ pos (n - 1)) in
      let below : lt_z (pos (nat (cell_under m m.lower) + nat m.stride * (n - 1))) (pos (nat m.cells)) ≡ true =
      sym (λ i. lt_z (far i) (cells_in.whole i)) ∙ both.1 in
      record { first = f; last = omega (arith, ltb-true _ (nat m.cells) below) }

  -- element i sits on the cell that the layout gives it, in the template
  pub cell-sits : (i : ℕ) → i < (layout_of m).size → (cell_under m (declared_index m i) ≡ pos (cell_of (layout_of m) i)) × (cell_of (layout_of m) i < (layout_of m).cells)
  unfolding cell_of
  cell-sits i h =
      let f = cells_fit_lem (omega arith) in
      let e : i ≤ (layout_of m).size - 1 = omega arith in (
        cell-further m i ∙ (λ k. f.first k +ℤ whole-mapping.stride k *ℤ pos i) ∙ ap pos (omega arith),
        omega (arith, f.last, mul-le-mul_left (layout_of m).stride e),
      )

  -- the cell of the first element, or where it would be
  first-high : (layout_of m).offset < 2 ^ 44
  unfolding layout_of cell_under
  first-high =
      let a = m.stride *ℤ m.lower in
      let c = a +ℤ m.offset in
      omega (
        arith,
        natural-le (c -ℤ m.origin),
        size-sub c m.origin,
        size-add a m.offset,
        size-mul m.stride m.lower,
        product_le most_stride 2147483647 (size-upto stride-in) bounds-in.lower,
        offset-small,
        bounds-in.origin,
      )

  pub mapped : Mapped m
  unfolding layout_of
  mapped =
      record {
        cells-pos = cells_in.from;
        cells-high = cells_in.upto;
        processors-pos = processors-in.from;
        processors-high = processors-in.upto;
        block-pos = block_in_lem.from;
        block-high = block_in_lem.upto;
        stride-pos = stride-in.from;
        stride-high = omega (arith, stride-in.upto);
        offset-high = first-high;
        size-high = size_in.upto;
        inside = λ h. (cells_fit_lem h).last;
      }

-- a declared index of the array, counted from 0
pub index_is : (m : Mapping) (j : ℤ) → is_index m j ≡ true → Below (j -ℤ m.lower) (layout_of m).size
unfolding layout_of
index_is m j e = below-is (j -ℤ m.lower) m.size (sym (index-from m j) ∙ e)

pub is-index : (m : Mapping) (i : ℕ) → i < (layout_of m).size → is_index m (declared_index m i) ≡ true
unfolding layout_of declared_index
is-index m i h =
    index-from m (declared_index m i) ∙ ap (is_below m.size) (taken-off m.lower (pos i)) ∙ is_below_lem i m.size h

-- a declared index is no larger than the bounds
pub index-small : (m : Mapping) → first_no (of_mapping m) ≡ 0 → (i : ℕ) → i < (layout_of m).size → nat_abs (declared_index m i) ≤ 2147483647
unfolding declared_index
index-small m ok i h =
    let n : ℕ = (layout_of m).size in
    let b = bounds-in m ok in
    between_ends m.lower i (n - 1) (omega arith) b.lower
    (rw (last-declared m n (whole-mapping m ok).size (omega arith)) at (b.last (some_in m ok (omega arith))))
  where
    between_ends : (k : ℤ) (i n : ℕ) → i ≤ n → nat_abs k ≤ 2147483647 → nat_abs (k +ℤ pos n) ≤ 2147483647 → nat_abs (k +ℤ pos i) ≤ 2147483647
    between_ends (pos c) i n h a b = omega arith
    between_ends (negsuc c) i n h a b = go (ltb i (suc c)) refl
      where
        go : (t : Bool) → ltb i (suc c) ≡ t → nat_abs (negsuc c +ℤ pos i) ≤ 2147483647
        go true e = rw e (omega arith)
        go false e =
            let f = ltb-false i (suc c) e in
            let g = rw (le-ltb n (suc c) (omega arith)) at b in
            rw e (omega arith)

-- ---- a section

pub record Accepted (x : Section) : Type 0 where
  pub sized : Sized (layout x)
  pub step-pos : 0 < nat_abs x.triplet.stride
  pub step-high : nat_abs x.triplet.stride ≤ 2147483647
  pub first-inside : 0 < count x → is_index x.mapping (element_at x.triplet 0) ≡ true
  pub last-inside : 0 < count x → is_index x.mapping (element_at x.triplet (count x - 1)) ≡ true

-- the numbers of a triplet
pub record Ranged (l h s : ℤ) : Type 0 where
  pub lower : nat_abs l ≤ 2147483647
  pub upper : nat_abs h ≤ 2147483647
  pub some : 0 < nat_abs s
  pub step : nat_abs s ≤ 2147483647

pub ranged : (x : Triplet) → in_range x ≡ true → Ranged x.lower x.upper x.stride
unfolding in_range
ranged x e =
    let a = between least most x.lower in
    let b = between least most x.upper in
    let c = between least most x.stride in
    let d = not (eqb (nat_abs x.stride) 0) in
    let abc : (a && b && c) ≡ true = (both_true (a && b && c) d e).0 in
    let ab : (a && b) ≡ true = (both_true (a && b) c abc).0 in
    record {
      lower = size_is x.lower (both_true a b ab).0;
      upper = size_is x.upper (both_true a b ab).1;
      some = not-zero (nat_abs x.stride) (not-true (eqb (nat_abs x.stride) 0) (both_true (a && b && c) d e).1);
      step = size_is x.stride (both_true (a && b) c abc).1;
    }
  where
    not-zero : (n : ℕ) → eqb n 0 ≡ false → 0 < n
    not-zero zero f = absurd (eqb-false 0 0 f refl)
    not-zero (suc n) f = omega arith

module _ (x : Section) (ok : first_no (of_section x) ≡ 0) where
  pub mapping-yes : first_no (of_mapping x.mapping) ≡ 0
  mapping-yes = (both_yes (of_mapping x.mapping) (of_triplet x) refl ok).0

  pub triplet-yes : AllYes (of_triplet x)
  triplet-yes = all_yes (of_triplet x) refl (both_yes (of_mapping x.mapping) (of_triplet x) refl ok).1

  in-range : Ranged x.triplet.lower x.triplet.upper x.triplet.stride
  in-range = ranged x.triplet triplet-yes.0

  first : Bool
  first = is_index x.mapping (element_at x.triplet 0)

  last : Bool
  last = is_index x.mapping (element_at x.triplet (count x - 1))

  ends : 0 < count x → (first && last) ≡ true
  unfolding first last ends_fit
  ends h = rw (ne_eqb (count x) 0 (λ e. omega arith)) at triplet-yes.1.0

  pub accepted : Accepted x
  unfolding layout first last
  accepted =
      record {
        sized = mapped x.mapping mapping-yes;
        step-pos = in-range.some;
        step-high = in-range.step;
        first-inside = λ h. (both_true first last (ends h)).0;
        last-inside = λ h. (both_true first last (ends h)).1;
      }
