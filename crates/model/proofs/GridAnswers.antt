-- What answers to ownership and going back say of one another, of a grid.
use Prim.Native.Nat.{ℕ, zero, suc, ◌*◌, ◌/◌, ◌%◌, ◌<◌}
use mathlib.Core.Path.{◌≡◌, refl, sym, ap, ◌∙◌, subst}
use mathlib.Core.Bool.{Bool, true, false, cond, ◌&&◌}
use mathlib.Core.List.{◌++◌}
use native.Mathlib.Omega.{arith}
use lib.Dec.{eqb}
use lib.IntN.{ℤ, pos}
use lib.Signed.{le_z}
use borrow.Author.Tests.{eqb-true, eqb-false, eq-eqb}
use Rattle.numbers.proofs.Tests.{both_true}
use Rattle.model.specs.Mappings.{Mapping}
use Rattle.model.specs.Ownership.{nat, declared_index, layout_of, rank, held, back_to}
use Rattle.model.specs.Questions.{first_no, is_index}
use Rattle.model.specs.Axes.{Array, array_of}
use Rattle.model.specs.declared.three.Three.{Three}
use Rattle.model.specs.Grids.{Grid, single, mappings_of, grid_array, number_of, indices_of, of_grid, of_grid_processor, of_indices, of_grid_address}
use Rattle.model.specs.GridCalls.{indices_in, of_grid_ownership, grid_ownership, GridBackAnswer, of_grid_back, grid_going_back}
use Rattle.model.specs.Demand2.{LeadsBack}
use Rattle.model.specs.GridDemands.{AreIndices}
use Rattle.model.proofs.QuestionLaws.{Below, all_yes, none-no, both_yes, asks-on, below-is, is_below_lem}
use Rattle.model.proofs.AddressLaws.{rank_lt, back-rank, rank-back}
use Rattle.model.proofs.PairLaws.{first-lt, second_lt}
use Rattle.model.proofs.GridAccepted.{mappings-yes}
use Rattle.model.proofs.GridDemand2Holds.{number-of, are-indices, grid-dealt, grid-element}

-- the one index of a dimension past the rank is 0
one_index : (b : Bool) (m : Mapping) (i : ℕ) → i < (layout_of (cond b m single)).size
    → cond b (declared_index (cond b m single) i) (pos 0) ≡ declared_index (cond b m single) i
unfolding declared_index layout_of nat
one_index true m i h = refl
one_index false m zero h = refl
one_index false m (suc i) h = absurd (omega arith)

module _ (g : Grid) where
  abbrev m : Three Mapping
  m = mappings_of g

  abbrev a : Array
  a = grid_array m

  -- so the indices that a number has are those up to the rank
  up-to-rank : (i : ℕ) → i < a.size → indices_in g (indices_of m i) ≡ indices_of m i
  unfolding mappings_of grid_array indices_of
  up-to-rank i h =
      let n : ℕ = (array_of m.first).size in
      let b : ℕ = (array_of m.second).size in
      let c : ℕ = (array_of m.third).size in
      let l : i / n < b * c = second_lt n (b * c) i h in
      (λ z. record {
        first = declared_index m.first (i % n);
        second = one_index (le_z (pos 2) g.rank) g.dimensions.second (i / n % b) (first-lt b c (i / n) l) z;
        third = one_index (le_z (pos 3) g.rank) g.dimensions.third (i / n / b) (second_lt b c (i / n) l) z;
      })

  -- ---- what an answer that is no refusal says

  pub record Owning (j : Three ℤ) : Type 0 where
    pub grid : first_no (of_grid g) ≡ 0
    pub indices : AreIndices m (indices_in g j)
    pub is :
        grid_ownership g j
        ≡ record { refusal = 0; processor = a.owner (number_of m (indices_in g j)); address = rank a.owner (number_of m (indices_in g j)) }

  pub indices-in : (j : Three ℤ) → first_no (of_indices m j) ≡ 0 → AreIndices m j
  indices-in j e =
      let first = is_index m.first j.first in
      let second = is_index m.second j.second in
      let two = both_true (first && second) (is_index m.third j.third) (all_yes (of_indices m j) refl e).0 in
      let one = both_true first second two.0 in
      (one.0, one.1, two.1)

  pub owning : (j : Three ℤ) → (grid_ownership g j).refusal ≡ 0 → Owning j
  unfolding grid_ownership
  owning j e = go (eqb (first_no (of_grid_ownership g j)) 0) refl
    where
      go : (b : Bool) → eqb (first_no (of_grid_ownership g j)) 0 ≡ b → Owning j
      go true p =
          let r = both_yes (of_grid g) (of_indices m (indices_in g j)) refl (eqb-true (first_no (of_grid_ownership g j)) 0 p) in
          record { grid = r.0; indices = indices-in (indices_in g j) r.1; is = rw p }
      go false p = absurd (eqb-false (first_no (of_grid_ownership g j)) 0 p (rw p at e))

  -- and when it is so answered
  owns-indices : (j : Three ℤ) → first_no (of_grid g) ≡ 0 → AreIndices m (indices_in g j)
      → grid_ownership g j
      ≡ record { refusal = 0; processor = a.owner (number_of m (indices_in g j)); address = rank a.owner (number_of m (indices_in g j)) }
  unfolding grid_ownership
  owns-indices j ok y =
      let k : Three ℤ = indices_in g j in
      let none : first_no (of_grid_ownership g j) ≡ 0 =
      asks-on (of_grid g) (of_indices m k) (all_yes (of_grid g) refl ok) ∙ none-no (of_indices m k) (rw (y.0, y.1, y.2), tt) in
      rw (eq-eqb (first_no (of_grid_ownership g j)) 0 none)

  pub record Leading (q x : ℤ) : Type 0 where
    pub grid : first_no (of_grid g) ≡ 0
    pub processor : Below q a.processors
    pub address : Below x (held a.owner a.size (nat q))
    pub is : grid_going_back g q x ≡ record { refusal = 0; indices = indices_of m (back_to a.owner a.size (nat q) (nat x)) }

  pub leading : (q x : ℤ) → (grid_going_back g q x).refusal ≡ 0 → Leading q x
  unfolding grid_going_back nat
  leading q x e = go (eqb (first_no (of_grid_back g q x)) 0) refl
    where
      go : (b : Bool) → eqb (first_no (of_grid_back g q x)) 0 ≡ b → Leading q x
      go true p =
          let last = of_grid_processor a q ++ of_grid_address a q x in
          let r = both_yes (of_grid g) last refl (eqb-true (first_no (of_grid_back g q x)) 0 p) in
          let l = all_yes last refl r.1 in
          record { grid = r.0; processor = below-is q (pos a.processors) l.0; address = below-is x _ l.1.0; is = rw p }
      go false p = absurd (eqb-false (first_no (of_grid_back g q x)) 0 p (rw p at e))

  -- ---- there and back

  -- going back from an answer of ownership gives the indices
  pub grid-there-and-back : (j : Three ℤ) → (grid_ownership g j).refusal ≡ 0
      → grid_going_back g (pos (grid_ownership g j).processor) (pos (grid_ownership g j).address)
      ≡ record { refusal = 0; indices = indices_in g j }
  unfolding grid_going_back nat
  grid-there-and-back j e =
      let w = owning j e in
      let d = grid-dealt m (mappings-yes g w.grid) in
      let y = grid-element m (mappings-yes g w.grid) (indices_in g j) w.indices in
      let i : ℕ = number_of m (indices_in g j) in
      let q : ℕ = a.owner i in
      let rest = of_grid_processor a (pos q) ++ of_grid_address a (pos q) (pos (rank a.owner i)) in
      let none : first_no (of_grid g ++ rest) ≡ 0 =
      asks-on (of_grid g) rest (all_yes (of_grid g) refl w.grid)
      ∙ none-no rest (
        is_below_lem q (pos a.processors) (d i y.number),
        (is_below_lem (rank a.owner i) (pos (held a.owner a.size q)) (rank_lt a.owner a.size q i y.number refl), tt),
      ) in
      rw (w.is, eq-eqb (first_no (of_grid g ++ rest)) 0 none, back-rank a.owner a.size i y.number, y.back)

  -- ownership of an answer of going back gives processor and address
  pub grid-back-and-there : (q x : ℤ) → (grid_going_back g q x).refusal ≡ 0
      → grid_ownership g (grid_going_back g q x).indices ≡ record { refusal = 0; processor = nat q; address = nat x }
  grid-back-and-there q x e =
      let w = leading q x e in
      let i : ℕ = back_to a.owner a.size (nat q) (nat x) in
      let b : LeadsBack a.owner a.size (nat q) (nat x) i = rank-back a.owner a.size (nat q) (nat x) w.address.below in
      let j : Three ℤ = indices_of m i in
      let same : indices_in g j ≡ j = up-to-rank i b.inside in
      let n : number_of m (indices_in g j) ≡ i = ap (number_of m) same ∙ number-of m i in
      ap (λ (o : GridBackAnswer). grid_ownership g o.indices) w.is
      ∙ owns-indices j w.grid (subst (AreIndices m) (sym same) (are-indices m i b.inside))
      ∙ rw (n, b.processor, b.address)
