-- What is known of an accepted dimension: its array, what its processors have, and where they have it. Assumes nothing.
use Prim.Native.Nat.{ℕ, ◌≤◌, ◌<◌}
use mathlib.Core.Path.{◌≡◌, refl, ap, sym, subst, ◌∙◌}
use mathlib.Core.Bool.{true}
use mathlib.Core.List.{List}
use native.Mathlib.Omega.{arith}
use borrow.Author.Tests.{eq-eqb}
use lib.IntN.{ℤ, pos, ◌-ℤ◌, ◌+ℤ◌}
use Rattle.std.proofs.Common.{Ok}
use Rattle.model.specs.declared.Mapping as mappings
use Rattle.model.specs.declared.Layout.{Layout}
use Rattle.model.specs.Mappings.{Dealing, cyclic, gen_block, dealing_with, mapping_with}
use Rattle.model.specs.Ownership.{nat, last_index, layout_of, cell_of, owner_of, run_sizes}
use Rattle.model.specs.Questions.{between, is_index, Passes}
use Rattle.model.specs.Sized.{Sized}
use Rattle.model.proofs.AddressLaws.{rank-back}
use Rattle.model.proofs.HeldLaws.{held-le}
use Rattle.model.proofs.AcceptedLaws.{whole-mapping, bounds-in, mapped}
use Rattle.model.proofs.BoundLaws.{within-from}
use Rattle.model.proofs.CellOwners.{cell-owner-lt}
use Rattle.model.proofs.Demand2Holds.{runs_fit}
use Rattle.model.proofs.ProductLaws as products
use Rattle.model.proofs.QuestionLaws.{Below, below-is}
use Rattle.model.proofs.RunOwners.{owner-run}
use Rattle.mapping.specs.declared.parts.Part.{Part}
use Rattle.mapping.specs.declared.parts.Part.TheVariants.{Blocks, Run}
use Rattle.mapping.specs.Answers.{mapping_of, mapped_of}
use Rattle.mapping.specs.Parts.{Low, part_in, held_in, found_in, owner_for, Listed}
use Rattle.mapping.proofs.CallLaws.{listed_by}
use Rattle.mapping.proofs.PartLaws.{cut-le, inside, covered, held-part, found_part}
use Rattle.grid.specs.declared.dimensions.Dimension.{Dimension}
use Rattle.grid.specs.declared.elements.Held.{Held}
use Rattle.grid.specs.Dimensions.{dimension_with, array_in, Known}
use Rattle.grid.specs.Answers.{has_index, held_by, HeldKnown}
use Rattle.grid.proofs.ThreeLaws.{held_of, back_of}

-- the owner of an element is a processor
owner-below : (l : Layout) → Sized l → (d : Dealing) → Listed l d → (i : ℕ) → i < l.size → owner_for l d i < l.processors
unfolding layout_of nat
owner-below l s (cyclic k) e i h = cell-owner-lt l s.processors-pos (cell_of l i)
owner-below l s (gen_block sizes left) e i h =
    let d = gen_block sizes left in
    let m = mapping_of (pos l.cells) (pos l.processors) d (pos 1) (pos 0) (pos 0) (pos 0) (pos 0) in
    let r = owner-run (run_sizes sizes) (cell_of l i) (inside l s sizes left (covered l s d e) i h) in
    omega (arith, r.processor, (runs_fit m sizes left e).0)

-- an element that is found is one of the array
pub found_below : (l : Layout) → Sized l → (q : ℕ) (p : Part) (x : ℕ) → x < held_in l q p → found_in l q p x < l.size
found_below l s q Blocks x h = (rank-back (owner_of l) l.size q x h).inside
found_below l s q (Run r) x h = omega (arith, cut-le l s r.end.0)

held-inside : (l : Layout) → Sized l → (q : ℕ) (p : Part) → held_in l q p ≤ l.size
held-inside l s q Blocks = held-le (owner_of l) q l.size
held-inside l s q (Run r) = omega (arith, cut-le l s r.end.0)

pub held_small : (x : Dimension) (h : Held) → HeldKnown x h → h.elements ≤ 2147483647
held_small x h k = omega (arith, k.elements, held-inside x.layout k.ranged.0 h.processor h.part, k.ranged.0.size-high)

module _ (x : Dimension) (sizes : List ℕ) (k : Known x sizes) where
  pub dealt : products.Dealt (array_in x sizes)
  dealt = owner-below x.layout k.ranged.0 (dealing_with x.dealing sizes) k.listed

  pub held-here : (q : ℕ) → held_in x.layout q (part_in (dealing_with x.dealing sizes) q) ≡ held_of (array_in x sizes) q
  held-here q =
      let d = dealing_with x.dealing sizes in
      held-part x.layout k.ranged.0 d (covered x.layout k.ranged.0 d k.listed) q

  pub found_here : (q a : ℕ) → a < held_of (array_in x sizes) q
      → found_in x.layout q (part_in (dealing_with x.dealing sizes) q) a ≡ back_of (array_in x sizes) q a
  found_here q a h =
      let d = dealing_with x.dealing sizes in
      found_part x.layout k.ranged.0 d (covered x.layout k.ranged.0 d k.listed) q a (rw (held-here q) h)

  -- what is known of what a processor has
  pub held-known : (q : ℕ) (h : Held) → q < x.layout.processors → h ≡ held_by x sizes q → Low h.part → HeldKnown x h
  held-known q h l e low =
      subst (HeldKnown x) (sym e)
      (record { ranged = k.ranged; processor = l; low = subst (λ (g : Held). Low g.part) e low; elements = refl })

-- an index that passes 9, counted from 0
pub index_below : (x : Dimension) (j : ℤ) → has_index x j ≡ true → Below (j -ℤ x.lower) x.layout.size
unfolding nat
index_below x j e = below-is (j -ℤ x.lower) (pos x.layout.size) (sym (within-from x.lower (pos x.layout.size) j) ∙ e)

-- ---- a mapping that passed its questions

module _ (m : mappings.Mapping) (sizes : List ℕ) (ok : Passes (mapping_with m sizes)) where
  by : mapped_of (mapping_with m sizes) ≡ Ok (record { layout = layout_of (mapping_with m sizes); lower = m.lower })
  unfolding mapped_of
  by = rw (eq-eqb _ 0 ok)

  pub known : Known (dimension_with m sizes) sizes
  known = record {
    ranged = (mapped (mapping_with m sizes) ok, (bounds-in (mapping_with m sizes) ok).lower);
    listed = listed_by (mapping_with m sizes) _ by;
  }

  pub same_index : (j : ℤ) → is_index (mapping_with m sizes) j ≡ has_index (dimension_with m sizes) j
  unfolding is_index last_index
  same_index j = ap (λ (z : ℤ). between m.lower (m.lower +ℤ z -ℤ pos 1) j) (whole-mapping (mapping_with m sizes) ok).size
