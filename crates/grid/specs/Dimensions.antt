-- The dimensions of a grid that passed its questions, and what is known of them. Definitions only.
use Rattle.std.specs.Prelude.{ℕ, ◌*◌, ◌≤◌, cond, List, ◌++◌, eqb, Result, Ok, Err}
use Rattle.model.specs.declared.Mapping as mappings
use Rattle.model.specs.declared.three.Ranked.{Ranked}
use Rattle.model.specs.Mappings.{Mapping, dealing_with, mapping_with}
use Rattle.model.specs.Ownership.{layout_of}
use Rattle.model.specs.Questions.{first_no, of_mapping}
use Rattle.model.specs.Axes.{Array, product}
use Rattle.model.specs.declared.three.Three.{Three}
use Rattle.model.specs.Grids.{up_to, grid_with, of_mappings, of_products, of_grid}
use Rattle.mapping.specs.Answers.{Ranged}
use Rattle.mapping.specs.Parts.{owner_for, Listed}
use Rattle.grid.specs.declared.dimensions.Dimension.{Dimension}
use Rattle.grid.specs.Ranks.{single_numbers}

-- ---- one dimension

abbrev pub dimension_with : mappings.Mapping → List ℕ → Dimension
dimension_with m sizes = record { layout = layout_of (mapping_with m sizes); lower = m.lower; dealing = m.dealing }

-- a mapping that passes its questions, or the first of them that is answered no
unfoldable pub asked_of : mappings.Mapping → List ℕ → Result Dimension ℕ
asked_of m sizes =
    let e = first_no (of_mapping (mapping_with m sizes)) in
    cond (eqb e 0) (Ok (dimension_with m sizes)) (Err e)

-- the array of a dimension
abbrev pub array_in : Dimension → List ℕ → Array
array_in x sizes = record {
  processors = x.layout.processors;
  size = x.layout.size;
  owner = owner_for x.layout (dealing_with x.dealing sizes);
}

-- what is known of an accepted one
pub record Known (x : Dimension) (sizes : List ℕ) : Type 0 where
  pub ranged : Ranged x.layout x.lower
  pub listed : Listed x.layout (dealing_with x.dealing sizes)

-- ---- three

abbrev pub Dimensions : Type 0
Dimensions = Three Dimension

abbrev pub three_with : mappings.Mapping → mappings.Mapping → mappings.Mapping → List ℕ → List ℕ → List ℕ → Three Mapping
three_with m n o b c d = record { first = mapping_with m b; second = mapping_with n c; third = mapping_with o d }

abbrev pub dimensions_by : mappings.Mapping → mappings.Mapping → mappings.Mapping → List ℕ → List ℕ → List ℕ → Dimensions
dimensions_by m n o b c d = record { first = dimension_with m b; second = dimension_with n c; third = dimension_with o d }

-- three mappings that pass their questions and 17 of the products, or the first question that is answered no
unfoldable pub three_of : mappings.Mapping → mappings.Mapping → mappings.Mapping → List ℕ → List ℕ → List ℕ → Result Dimensions ℕ
three_of m n o b c d =
    let e = first_no (of_mappings (three_with m n o b c d) ++ of_products (three_with m n o b c d)) in
    cond (eqb e 0) (Ok (dimensions_by m n o b c d)) (Err e)

-- their arrays as one
abbrev pub grid_in : Dimensions → List ℕ → List ℕ → List ℕ → Array
grid_in x b c d = product (array_in x.first b) (product (array_in x.second c) (array_in x.third d))

-- what is known of accepted ones
pub record AllKnown (x : Dimensions) (b c d : List ℕ) : Type 0 where
  pub first : Known x.first b
  pub second : Known x.second c
  pub third : Known x.third d
  pub processors : x.first.layout.processors * (x.second.layout.processors * x.third.layout.processors) ≤ 1024
  pub size : x.first.layout.size * (x.second.layout.size * x.third.layout.size) ≤ 2147483647

-- ---- a grid

-- its mappings, as a call passes them, with one element on one processor in each dimension past the rank
abbrev pub mappings_to : Ranked mappings.Mapping → Three mappings.Mapping
mappings_to g = up_to g.rank single_numbers g.dimensions

abbrev pub dimensions_with : Ranked mappings.Mapping → List ℕ → List ℕ → List ℕ → Dimensions
dimensions_with g b c d =
    dimensions_by (mappings_to g).first (mappings_to g).second (mappings_to g).third b c d

-- the dimensions of a grid that passes its questions, or the first question that is answered no
unfoldable pub gridded_of : Ranked mappings.Mapping → List ℕ → List ℕ → List ℕ → Result Dimensions ℕ
gridded_of g b c d =
    let e = first_no (of_grid (grid_with g b c d)) in
    cond (eqb e 0) (Ok (dimensions_with g b c d)) (Err e)
