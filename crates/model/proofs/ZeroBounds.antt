-- The mapping with bounds 0 whose elements sit on the same cells: it passes its questions where the other does, if there are
-- elements. Assumes nothing.
use Prim.Native.Nat.{ℕ, zero, suc, ◌+◌, ◌-◌, ◌*◌, ◌≤◌}
use mathlib.Core.Path.{◌≡◌, refl, sym, ap, ◌∙◌}
use mathlib.Core.Bool.{Bool, true, false, ◌||◌}
use native.Mathlib.Omega.{arith}
use lib.IntN.{ℤ, pos, ◌+ℤ◌, ◌-ℤ◌, ◌*ℤ◌, +ℤ_idl, +ℤ_idr, *ℤ-zero}
use lib.Signed.{le_z, lt_z}
use borrow.Author.Tests.{le-leb, lt-ltb}
use Rattle.numbers.proofs.Tests.{both_true}
use Rattle.numbers.proofs.Signed.{minus}
use Rattle.model.specs.Mappings.{Mapping}
use Rattle.model.specs.declared.Layout.{Layout}
use Rattle.model.specs.Ownership.{nat, cell_under, last_index, last_cell, layout_of}
use Rattle.model.specs.Sized.{Sized}
use Rattle.model.specs.Questions.{between, most, least, most_stride, bounds_fit, cells_fit, of_mapping, Passes}
use Rattle.model.specs.Shifted.{from_zero}
use Rattle.model.proofs.BoundLaws.{last-declared, cell-further}
use Rattle.model.proofs.QuestionLaws.{all_yes, none-no, Natural, between_is}
use Rattle.model.proofs.AcceptedLaws.{CellsIn, whole-mapping, cells_fit_lem, mapped}

pub less_zero : (z : ℤ) → z -ℤ pos 0 ≡ z
less_zero z = +ℤ_idr z

pub first_cell : (m : Mapping) → cell_under m m.lower ≡ cell_under (from_zero m) (pos 0)
unfolding cell_under
first_cell m =
    let c = cell_under m m.lower in
    sym (ap (λ (d : ℤ). d +ℤ c -ℤ pos 0) (*ℤ-zero m.stride) ∙ less_zero (pos 0 +ℤ c) ∙ +ℤ_idl c)

either : (b : Bool) → (b || true) ≡ true
either true = refl
either false = refl

small-in : (n : ℕ) → n ≤ 2147483647 → between least most (pos n) ≡ true
unfolding between
small-in n h = le-leb n 2147483647 h

-- bounds of 0 pass question 15 where the sizes are in range
pub zero-bounds : (m : Mapping) → m.lower ≡ pos 0 → m.origin ≡ pos 0 → Natural m.cells 1 2147483647 → Natural m.size 0 2147483647
    → bounds_fit m ≡ true
unfolding bounds_fit last_cell last_index
zero-bounds m low org t n =
    rw (low, org, small-in 0 (omega arith), cell, small-in (nat m.cells - 1) (omega (arith, t.upto))) (index (nat m.size) n.whole n.upto)
  where
    cell : pos 0 +ℤ m.cells -ℤ pos 1 ≡ pos (nat m.cells - 1)
    cell = ap (λ (c : ℤ). c -ℤ pos 1) (+ℤ_idl m.cells ∙ t.whole) ∙ minus (nat m.cells) 1 t.from

    index : (k : ℕ) → m.size ≡ pos k → k ≤ 2147483647 → (lt_z m.size (pos 1) || between least most (pos 0 +ℤ m.size -ℤ pos 1)) ≡ true
    index zero e h = rw e
    index (suc k) e h =
        let last : pos 0 +ℤ m.size -ℤ pos 1 ≡ pos k =
        ap (λ (c : ℤ). c -ℤ pos 1) (+ℤ_idl m.size ∙ e) ∙ minus (suc k) 1 (omega arith) ∙ ap pos (omega arith) in
        rw (last, small-in k (omega arith)) (either (lt_z m.size (pos 1)))

module _ (m : Mapping) (ok : Passes m) (some : 1 ≤ (layout_of m).size) where
  abbrev l : Layout
  l = layout_of m

  sized : Sized l
  sized = mapped m ok

  fit : CellsIn m
  fit = cells_fit_lem m ok some

  offset-in : between least most (cell_under m m.lower) ≡ true
  offset-in = ap (between least most) fit.first ∙ small-in l.offset (omega (arith, sized.inside some, sized.cells-high))

  bounds-fit : bounds_fit (from_zero m) ≡ true
  bounds-fit =
      let yes-all = all_yes (of_mapping m) refl ok in
      zero-bounds (from_zero m) refl refl (between_is 1 2147483647 m.cells yes-all.0) (between_is 0 2147483647 m.size yes-all.1.1.1.1.1.0)

  cells_in : cells_fit (from_zero m) ≡ true
  unfolding cells_fit
  cells_in =
      let w = whole-mapping m ok in
      let first : cell_under (from_zero m) (pos 0) ≡ pos l.offset = sym (first_cell m) ∙ fit.first in
      let far : cell_under (from_zero m) (last_index (from_zero m)) ≡ pos (l.offset + l.stride * (l.size - 1)) =
      ap (cell_under (from_zero m)) (last-declared (from_zero m) l.size w.size some)
      ∙ cell-further (from_zero m) (l.size - 1)
      ∙ (λ i. first i +ℤ w.stride i *ℤ pos (l.size - 1)) in
      let below : lt_z (cell_under (from_zero m) (last_index (from_zero m))) m.cells ≡ true =
      (λ i. lt_z (far i) (w.cells i)) ∙ lt-ltb (l.offset + l.stride * (l.size - 1)) l.cells (omega (arith, fit.last)) in
      rw (ap (le_z (pos 0)) first ∙ le-leb 0 l.offset (omega arith), below) (either (lt_z m.size (pos 1)))

  pub passes : Passes (from_zero m)
  passes =
      let yes-all = all_yes (of_mapping m) refl ok in
      let stride = (both_true (between (pos 1) (pos most_stride) m.stride) _ yes-all.1.1.1.1.0).0 in
      none-no (of_mapping (from_zero m)) (
        yes-all.0,
        (yes-all.1.0, (yes-all.1.1.0, (yes-all.1.1.1.0, (rw (stride, offset-in), (yes-all.1.1.1.1.1.0, (bounds-fit, (cells_in, tt))))))),
      )
