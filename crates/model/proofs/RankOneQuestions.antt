-- A grid of rank 1 puts the questions of its one dimension: those about the dimensions past the rank, and 17, are answered yes
-- where the dimension's are. Assumes nothing.
use Prim.Native.Nat.{◌/◌}
use mathlib.Core.Path.{◌≡◌, refl, sym, ◌∙◌}
use mathlib.Core.Bool.{true}
use mathlib.Core.List.{List, ◌++◌}
use native.Mathlib.Omega.{arith}
use lib.IntN.{pos}
use borrow.Author.Tests.{le-leb}
use Rattle.numbers.proofs.Division.{rest-is}
use Rattle.model.specs.Mappings.{Mapping, Section}
use Rattle.model.specs.Ownership.{nat, cell_under, last_index, last_cell, from_lower, layout_of, cell_of, cell_owner, owner}
use Rattle.model.specs.Sections.{count_of, element_at, count, index}
use Rattle.model.specs.Questions.{Question, first_no, AllYes, between, bounds_fit, cells_fit, of_mapping, is_index, in_range, ends_fit, of_section}
use Rattle.model.specs.Axes.{array_of, axis_of}
use Rattle.model.specs.declared.three.Three.{Three}
use Rattle.model.specs.Grids.{Grid, GridSection, single, single_section, mappings_of, sections_of, mappings_in, grid_array, grid_axis}
use Rattle.model.specs.Grids.{of_rank, of_products, of_grid, of_grid_section}
use Rattle.model.proofs.QuestionLaws.{numbered, asks-on, asks-no-more}
use Rattle.model.proofs.AcceptedLaws.{mapped, mapping-yes}
use Rattle.model.proofs.RowLaws.{next-within}
use Rattle.model.proofs.Walking.{walks-on}
use Rattle.model.proofs.AlikeLaws.{Alike, AlikeOn, One, product-one, product-alike, OneOn, rows-one, rows_alike}

-- ---- the dimensions past the rank

single-one : One (array_of single)
unfolding layout_of nat owner cell_owner
single-one = record { processors = refl; size = refl; owner = λ i. rest-is 1 (cell_of (layout_of single) i / 1) 0 _ (omega arith) (omega arith) }

single-one-on : OneOn (axis_of single_section)
unfolding count count_of index from_lower element_at nat
single-one-on = record { array = single-one; count = refl; element = refl }

rank-yes : AllYes (of_rank (pos 1))
unfolding between
rank-yes = (refl, tt)

-- the questions of the first dimension decide, where those of the others, and then those of the products, are answered yes
first-decides : (xs others products : List Question) → numbered xs ≡ true → numbered (xs ++ others) ≡ true → first_no others ≡ 0
    → (first_no xs ≡ 0 → first_no products ≡ 0) → first_no (of_rank (pos 1) ++ (xs ++ others) ++ products) ≡ first_no xs
first-decides xs others products n m o f =
    let first = asks-no-more xs others n (λ z. o) in
    asks-on (of_rank (pos 1)) ((xs ++ others) ++ products) rank-yes
    ∙ asks-no-more (xs ++ others) products m (λ z. f (sym first ∙ z))
    ∙ first

-- ---- a grid of rank 1

abbrev pub alone : Three Mapping → Grid
alone d = record { rank = pos 1; dimensions = d }

pub array-alike : (d : Three Mapping) → Alike (grid_array (mappings_of (alone d))) (array_of d.first)
unfolding grid_array mappings_of
array-alike d = product-alike (array_of d.first) (product-one single-one single-one)

products-yes : (d : Three Mapping) → first_no (of_mapping d.first) ≡ 0 → first_no (of_products (mappings_of (alone d))) ≡ 0
unfolding first_no
products-yes d ok =
    let s = mapped d.first ok in
    let a = array-alike d in
    rw (
      le-leb (grid_array (mappings_of (alone d))).processors 1024 (omega (arith, a.processors, s.processors-high)),
      le-leb (grid_array (mappings_of (alone d))).size 2147483647 (omega (arith, a.size, s.size-high)),
    )

mappings-yes : first_no (of_mapping single ++ of_mapping single) ≡ 0
unfolding first_no between bounds_fit cells_fit last_cell last_index cell_under
mappings-yes = refl

pub grid-asks : (d : Three Mapping) → first_no (of_grid (alone d)) ≡ first_no (of_mapping d.first)
unfolding mappings_of
grid-asks d =
    first-decides (of_mapping d.first) (of_mapping single ++ of_mapping single) (of_products (mappings_of (alone d))) refl refl mappings-yes
    (products-yes d)

-- ---- a section of one

abbrev pub alone_on : Three Section → GridSection
alone_on d = record { rank = pos 1; dimensions = d }

pub axis-alike : (d : Three Section) → first_no (of_section d.first) ≡ 0 → AlikeOn (grid_axis (sections_of (alone_on d))) (axis_of d.first)
unfolding grid_axis sections_of
axis-alike d ok =
    rows_alike (axis_of d.first) (rows-one single-one-on single-one-on) (next-within (axis_of d.first) (walks-on d.first ok))

sections-yes : first_no (of_section single_section ++ of_section single_section) ≡ 0
unfolding first_no between bounds_fit cells_fit last_cell last_index cell_under in_range ends_fit is_index count count_of element_at nat
sections-yes = refl

pub section-asks : (d : Three Section) → first_no (of_grid_section (alone_on d)) ≡ first_no (of_section d.first)
unfolding sections_of mappings_of
section-asks d =
    first-decides (of_section d.first) (of_section single_section ++ of_section single_section) (of_products (mappings_in (sections_of (alone_on d)))) refl refl
    sections-yes (λ z. products-yes (mappings_in d) (mapping-yes d.first z))
