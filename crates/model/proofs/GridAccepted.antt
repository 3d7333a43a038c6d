-- What a yes to every question about a grid, or about a section of one, says of each dimension and of the products.
use Prim.Native.Nat.{◌≤◌}
use mathlib.Core.Path.{◌≡◌, refl}
use mathlib.Core.List.{◌++◌}
use lib.Dec.{leb}
use borrow.Author.Tests.{leb-true}
use Rattle.numbers.proofs.Tests.{both_true}
use Rattle.model.specs.Mappings.{Mapping}
use Rattle.model.specs.Questions.{first_no, Passes, of_mapping, of_section}
use Rattle.model.specs.declared.three.Three.{Three}
use Rattle.model.specs.Grids.{Grid, GridSection, mappings_of, sections_of, mappings_in, grid_array}
use Rattle.model.specs.Grids.{of_rank, of_products, of_mappings, of_sections, of_grid, of_grid_section}
use Rattle.model.proofs.QuestionLaws.{all_yes, both_yes}
use Rattle.model.proofs.AcceptedLaws.{mapping-yes}

-- the products are within their limits
pub record InLimits (m : Three Mapping) : Type 0 where
  pub processors : (grid_array m).processors ≤ 1024
  pub size : (grid_array m).size ≤ 2147483647

limits : (m : Three Mapping) → first_no (of_products m) ≡ 0 → InLimits m
limits m e =
    let p = leb (grid_array m).processors 1024 in
    let s = leb (grid_array m).size 2147483647 in
    let both = both_true p s (all_yes (of_products m) refl e).0 in
    record { processors = leb-true (grid_array m).processors 1024 both.0; size = leb-true (grid_array m).size 2147483647 both.1 }

-- every dimension's mapping is accepted
pub record Mapped (m : Three Mapping) : Type 0 where
  pub first : Passes m.first
  pub second : Passes m.second
  pub third : Passes m.third

-- ---- a grid

module _ (g : Grid) (ok : first_no (of_grid g) ≡ 0) where
  grid-rest : (first_no (of_mappings (mappings_of g)) ≡ 0) × (first_no (of_products (mappings_of g)) ≡ 0)
  grid-rest =
      both_yes (of_mappings (mappings_of g)) (of_products (mappings_of g)) refl
      (both_yes (of_rank g.rank) (of_mappings (mappings_of g) ++ of_products (mappings_of g)) refl ok).1

  pub mappings-yes : Mapped (mappings_of g)
  mappings-yes =
      let m : Three Mapping = mappings_of g in
      let a = both_yes (of_mapping m.first) (of_mapping m.second ++ of_mapping m.third) refl grid-rest.0 in
      let b = both_yes (of_mapping m.second) (of_mapping m.third) refl a.1 in
      record { first = a.0; second = b.0; third = b.1 }

  pub grid-limits : InLimits (mappings_of g)
  grid-limits = limits (mappings_of g) grid-rest.1

-- ---- a section of a grid

module _ (x : GridSection) (ok : first_no (of_grid_section x) ≡ 0) where
  section-rest : (first_no (of_sections (sections_of x)) ≡ 0) × (first_no (of_products (mappings_in (sections_of x))) ≡ 0)
  section-rest =
      both_yes (of_sections (sections_of x)) (of_products (mappings_in (sections_of x))) refl
      (both_yes (of_rank x.rank) (of_sections (sections_of x) ++ of_products (mappings_in (sections_of x))) refl ok).1

  after_first : (first_no (of_section (sections_of x).first) ≡ 0) × (first_no (of_section (sections_of x).second ++ of_section (sections_of x).third) ≡ 0)
  after_first =
      both_yes (of_section (sections_of x).first) (of_section (sections_of x).second ++ of_section (sections_of x).third) refl section-rest.0

  pub first-yes : first_no (of_section (sections_of x).first) ≡ 0
  first-yes = after_first.0

  pub second-yes : first_no (of_section (sections_of x).second) ≡ 0
  second-yes = (both_yes (of_section (sections_of x).second) (of_section (sections_of x).third) refl after_first.1).0

  pub third-yes : first_no (of_section (sections_of x).third) ≡ 0
  third-yes = (both_yes (of_section (sections_of x).second) (of_section (sections_of x).third) refl after_first.1).1

  pub sections-mapped : Mapped (mappings_in (sections_of x))
  sections-mapped = record {
    first = mapping-yes (sections_of x).first first-yes;
    second = mapping-yes (sections_of x).second second-yes;
    third = mapping-yes (sections_of x).third third-yes;
  }

  pub section-limits : InLimits (mappings_in (sections_of x))
  section-limits = limits (mappings_in (sections_of x)) section-rest.1
