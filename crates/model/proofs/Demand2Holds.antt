-- Demand 2 holds of every mapping that passes its questions, and of every accepted section. Assumes nothing.
use Prim.Native.Nat.{ℕ, ◌/◌, ◌%◌, ◌≤◌, ◌<◌}
use mathlib.Core.Bool.{true, ◌&&◌}
use mathlib.Core.List.{List}
use mathlib.Core.Path.{◌≡◌, refl, sym, ap, ◌∙◌}
use native.Mathlib.Omega.{arith}
use lib.Dec.{leb, eqb}
use lib.IntN.{ℤ, nat_abs}
use lib.ListN.{length, length-map}
use borrow.Author.Tests.{leb-true, eqb-true}
use Rattle.numbers.specs.Search.{sum}
use Rattle.numbers.proofs.Tests.{both_true}
use Rattle.model.specs.Mappings.{Dealing, cyclic, gen_block, Mapping, Section}
use Rattle.model.specs.declared.Triplet.{Triplet}
use Rattle.model.specs.Ownership.{nat, cell_under, from_lower, block_in, layout_of, cell_of, cell_owner, run_owner, run_sizes, cell_owner_by, owner}
use Rattle.model.specs.Questions.{each_natural, sizes_fit, first_no, is_index, in_range, of_mapping, of_section}
use Rattle.model.specs.Demand2.{Fortran95, Hpf2, Element, Demand2}
use Rattle.model.proofs.AddressLaws.{addressed}
use Rattle.model.proofs.CellOwners.{cell-owner-lt}
use Rattle.model.proofs.BoundLaws.{declared-from}
use Rattle.model.proofs.AcceptedLaws.{runs-in, cell-sits, index_is, is-index, ranged, mapping-yes, triplet-yes, mapped}
use Rattle.model.proofs.RunOwners.{owner-run}
use Rattle.model.proofs.TripletLaws.{fortran95}

-- of an accepted GEN_BLOCK template there are as many runs as processors, and each of its cells lies in one
pub runs_fit : (m : Mapping) (sizes : List ℤ) (left : ℕ) → sizes_fit m.cells m.processors sizes left ≡ true
    → (length (run_sizes sizes) ≡ (layout_of m).processors) × ((layout_of m).cells ≤ sum (run_sizes sizes))
unfolding sizes_fit layout_of
runs_fit m sizes left e =
    let a = eqb (length sizes) (nat m.processors) in
    let b = eqb left 0 in
    let c = each_natural sizes in
    let d = leb (nat m.cells) (sum (run_sizes sizes)) in
    let three = both_true (a && b && c) d e in
    let two = both_true (a && b) c three.0 in (
      rw length-map (eqb-true (length sizes) (nat m.processors) (both_true a b two.0).0),
      leb-true (nat m.cells) (sum (run_sizes sizes)) three.1,
    )

-- the owner of an element's cell is HPF 2.0's, and a processor
pub owner-is : (m : Mapping) → first_no (of_mapping m) ≡ 0 → (i : ℕ) → i < (layout_of m).size
    → Hpf2 m.dealing (layout_of m).processors (cell_of (layout_of m) i) (owner m i) × (owner m i < (layout_of m).processors)
unfolding owner cell_owner layout_of
owner-is m ok i h = go m.dealing refl (cell_of (layout_of m) i) (cell-sits m ok i h).1
  where
    go : (z : Dealing) → m.dealing ≡ z → (c : ℕ) → c < (layout_of m).cells
        → Hpf2 z (layout_of m).processors c (cell_owner_by z (layout_of m) c) × (cell_owner_by z (layout_of m) c < (layout_of m).processors)
    go (cyclic k) d c l =
        (ap (λ (z : Dealing). c / nat (block_in z) % nat m.processors) d, cell-owner-lt (layout_of m) (mapped m ok).processors-pos c)
    go (gen_block sizes left) d c l =
        let f = runs_fit m sizes left (runs-in m ok d) in
        let r = owner-run (run_sizes sizes) c (omega (arith, f.1)) in
        let q : run_owner (run_sizes sizes) c < (layout_of m).processors = omega (arith, f.0, r.processor) in
        ((q, r.from, r.below), q)

pub owner-lt : (m : Mapping) → first_no (of_mapping m) ≡ 0 → (i : ℕ) → i < (layout_of m).size → owner m i < (layout_of m).processors
owner-lt m ok i h = (owner-is m ok i h).1

-- the element of a declared index of an accepted mapping
pub element-of : (m : Mapping) → first_no (of_mapping m) ≡ 0 → (j : ℤ) → is_index m j ≡ true → Element m j
unfolding cell_under from_lower
element-of m ok j e =
    let b = index_is m j e in
    let i : ℕ = from_lower m j in
    let back = declared-from m j b.whole in
    let c = cell-sits m ok i b.below in
    record {
      cell = cell_of (layout_of m) i;
      sits = sym c.0 ∙ ap (cell_under m) back;
      below = c.1;
      owned = (owner-is m ok i b.below).0;
      index = b.below;
      back = back;
    }

pub demand2 : (m : Mapping) → first_no (of_mapping m) ≡ 0 → Demand2 m
demand2 m ok = record {
  element = element-of m ok;
  each-declared = is-index m;
  addresses = addressed (owner m) (layout_of m).processors (layout_of m).size (owner-lt m ok);
}

pub elements-of : (x : Triplet) → in_range x ≡ true → Fortran95 x
elements-of x e = fortran95 x (λ z. omega (arith, (ranged x e).some, ap nat_abs z))

-- of a section
pub section-elements : (x : Section) → first_no (of_section x) ≡ 0 → Fortran95 x.triplet
section-elements x ok = elements-of x.triplet (triplet-yes x ok).0

pub section-demand2 : (x : Section) → first_no (of_section x) ≡ 0 → Demand2 x.mapping × Fortran95 x.triplet
section-demand2 x ok = (demand2 x.mapping (mapping-yes x ok), section-elements x ok)
