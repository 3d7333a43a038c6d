-- Demand 2 holds of every grid that passes its questions, and of every accepted section of one. Assumes nothing.
use Prim.Native.Nat.{ℕ, ◌*◌, ◌/◌, ◌%◌, ◌<◌}
use mathlib.Core.Path.{◌≡◌, ap, ◌∙◌}
use lib.IntN.{ℤ}
use Rattle.model.specs.Mappings.{Mapping}
use Rattle.model.specs.Ownership.{from_lower, owner}
use Rattle.model.specs.Questions.{first_no}
use Rattle.model.specs.Axes.{Array, array_of, paired, product}
use Rattle.model.specs.declared.three.Three.{Three}
use Rattle.model.specs.Grids.{Grid, GridSection, mappings_of, sections_of, mappings_in, grid_array, number_of, indices_of, of_grid, of_grid_section}
use Rattle.model.specs.GridDemands.{AreIndices, rank_in, held_with, GridElement, GridDemand2, GridSectionDemand2}
use Rattle.model.proofs.BoundLaws.{from-declared}
use Rattle.model.proofs.AcceptedLaws.{is-index}
use Rattle.model.proofs.AddressLaws.{addressed}
use Rattle.model.proofs.PairLaws.{pair-first, pair-second, pair_of, first-lt, second_lt, pair_lt}
use Rattle.model.proofs.ProductLaws.{Dealt, product-dealt, owner-pair, rank-pair}
use Rattle.model.proofs.Demand2Holds.{owner-lt, element-of, section-elements}
use Rattle.model.proofs.GridAccepted.{Mapped, mappings-yes, first-yes, second-yes, third-yes, sections-mapped}

module _ (m : Three Mapping) where
  abbrev a : Array
  a = array_of m.first

  abbrev b : Array
  b = array_of m.second

  abbrev c : Array
  c = array_of m.third

  -- ---- elements by their numbers

  -- a number in storage order is that of the indices it has
  pub number-of : (i : ℕ) → number_of m (indices_of m i) ≡ i
  unfolding number_of indices_of
  number-of i =
      let r : ℕ = i / a.size in
      rw (from-declared m.first (i % a.size), from-declared m.second (r % b.size), from-declared m.third (r / b.size))
      (ap (paired a.size (i % a.size)) (pair_of b.size r) ∙ pair_of a.size i)

  -- which are declared ones
  pub are-indices : (i : ℕ) → i < (grid_array m).size → AreIndices m (indices_of m i)
  unfolding grid_array indices_of
  are-indices i h =
      let r : ℕ = i / a.size in
      let l : r < b.size * c.size = second_lt a.size (b.size * c.size) i h in (
        is-index m.first (i % a.size) (first-lt a.size (b.size * c.size) i h),
        is-index m.second (r % b.size) (first-lt b.size c.size r l),
        is-index m.third (r / b.size) (second_lt b.size c.size r l),
      )

  module _ (ok : Mapped m) where
    rest-dealt : Dealt (product b c)
    rest-dealt = product-dealt b c (owner-lt m.second ok.second) (owner-lt m.third ok.third)

    -- the owner of each is one of the grid's processors
    pub grid-dealt : Dealt (grid_array m)
    unfolding grid_array
    grid-dealt = product-dealt a (product b c) (owner-lt m.first ok.first) rest-dealt

    -- the element of declared indices
    pub grid-element : (j : Three ℤ) → AreIndices m j → GridElement m j
    unfolding grid_array number_of indices_of
    grid-element j e =
        let x = element-of m.first ok.first j.first e.0 in
        let y = element-of m.second ok.second j.second e.1 in
        let z = element-of m.third ok.third j.third e.2 in
        let s : ℕ = from_lower m.first j.first in
        let t : ℕ = from_lower m.second j.second in
        let u : ℕ = from_lower m.third j.third in
        let v : ℕ = paired b.size t u in
        record {
          first = x;
          second = y;
          third = z;
          number = pair_lt a.size (b.size * c.size) s v x.index (pair_lt b.size c.size t u y.index z.index);
          back = rw (
            pair-first a.size s v x.index,
            pair-second a.size s v x.index,
            pair-first b.size t u y.index,
            pair-second b.size t u y.index,
          ) (λ i. record { first = x.back i; second = y.back i; third = z.back i });
          owner = owner-pair a (product b c) s v x.index
              ∙ ap (paired a.processors (owner m.first s)) (owner-pair b c t u y.index);
          address = rank-pair a (product b c) (owner-lt m.first ok.first) s v x.index
              ∙ ap (paired (held_with m.first j.first) (rank_in m.first j.first))
              (rank-pair b c (owner-lt m.second ok.second) t u y.index);
        }

    mapped-demand2 : GridDemand2 m
    mapped-demand2 = record {
      element = grid-element;
      each-declared = λ i h. (are-indices i h, number-of i);
      addresses = addressed (grid_array m).owner (grid_array m).processors (grid_array m).size grid-dealt;
    }

pub grid-demand2 : (g : Grid) → first_no (of_grid g) ≡ 0 → GridDemand2 (mappings_of g)
grid-demand2 g ok = mapped-demand2 (mappings_of g) (mappings-yes g ok)

pub grid-section-demand2 : (x : GridSection) → first_no (of_grid_section x) ≡ 0 → GridSectionDemand2 x
grid-section-demand2 x ok = record {
  array = mapped-demand2 (mappings_in (sections_of x)) (sections-mapped x ok);
  first = section-elements (sections_of x).first (first-yes x ok);
  second = section-elements (sections_of x).second (second-yes x ok);
  third = section-elements (sections_of x).third (third-yes x ok);
}
