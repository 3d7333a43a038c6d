-- Document 02, A7: grids of processors, their sections, and the questions about both. Definitions only.
use Rattle.std.specs.Prelude.{ℕ, ◌/◌, ◌%◌, cond, ◌&&◌, List, [], ◌∷◌, ◌++◌, leb, ℤ, pos}
use Rattle.std.specs.Int.Signed.{le_z}
use Rattle.model.specs.declared.three.Three.{Three}
use Rattle.model.specs.declared.three.Ranked.{Ranked}
use Rattle.model.specs.declared.Mapping as mappings
use Rattle.model.specs.declared.Section as sections
use Rattle.model.specs.Mappings.{cyclic, Mapping, Section, mapping_with, section_with}
use Rattle.model.specs.Ownership.{nat, from_lower, declared_index, layout_of, held}
use Rattle.model.specs.Sections.{element_at, count}
use Rattle.model.specs.Questions.{Question, ask, between, is_below, is_index, of_mapping, of_section}
use Rattle.model.specs.Axes.{Array, array_of, paired, product, Axis, axis_of, rows}

-- ---- a grid

-- "a rank, and a mapping for each dimension"
abbrev pub Grid : Type 0
Grid = Ranked Mapping

-- a section is one of each dimension
abbrev pub GridSection : Type 0
GridSection = Ranked Section

-- "numbers of dimensions past the rank are not looked at": in their place stands `none`
abbrev pub up_to : {A : Type 0} → ℤ → A → Three A → Three A
up_to r none x = record {
  first = x.first;
  second = cond (le_z (pos 2) r) x.second none;
  third = cond (le_z (pos 3) r) x.third none;
}

-- an array of rank r as one of rank 3: one element on one processor in each dimension past the rank
abbrev pub single : Mapping
single = record {
  cells = pos 1;
  processors = pos 1;
  dealing = cyclic (pos 1);
  stride = pos 1;
  offset = pos 0;
  size = pos 1;
  lower = pos 0;
  origin = pos 0;
}

abbrev pub single_section : Section
single_section = record { mapping = single; triplet = record { lower = pos 0; upper = pos 0; stride = pos 1 } }

unfoldable pub mappings_of : Grid → Three Mapping
mappings_of g = up_to g.rank single g.dimensions

unfoldable pub sections_of : GridSection → Three Section
sections_of x = up_to x.rank single_section x.dimensions

abbrev pub mappings_in : Three Section → Three Mapping
mappings_in x = record { first = x.first.mapping; second = x.second.mapping; third = x.third.mapping }

-- as a call passes them, with the sizes of each dimension's list
abbrev pub grid_with : Ranked mappings.Mapping → List ℕ → List ℕ → List ℕ → Grid
grid_with g b c d = record {
  rank = g.rank;
  dimensions = record { first = mapping_with g.dimensions.first b; second = mapping_with g.dimensions.second c; third = mapping_with g.dimensions.third d };
}

abbrev pub grid_section_with : Ranked sections.Section → List ℕ → List ℕ → List ℕ → GridSection
grid_section_with x b c d = record {
  rank = x.rank;
  dimensions = record { first = section_with x.dimensions.first b; second = section_with x.dimensions.second c; third = section_with x.dimensions.third d };
}

-- ---- elements and positions by their numbers, "first dimension fastest"

unfoldable pub grid_array : Three Mapping → Array
grid_array m = product (array_of m.first) (product (array_of m.second) (array_of m.third))

unfoldable pub grid_axis : Three Section → Axis
grid_axis x = rows (axis_of x.first) (rows (axis_of x.second) (axis_of x.third))

-- the element of three declared indices as a number in storage order, and back
unfoldable pub number_of : Three Mapping → Three ℤ → ℕ
number_of m j =
    paired (layout_of m.first).size (from_lower m.first j.first)
    (paired (layout_of m.second).size (from_lower m.second j.second) (from_lower m.third j.third))

unfoldable pub indices_of : Three Mapping → ℕ → Three ℤ
indices_of m i =
    let rest : ℕ = i / (layout_of m.first).size in
    record {
      first = declared_index m.first (i % (layout_of m.first).size);
      second = declared_index m.second (rest % (layout_of m.second).size);
      third = declared_index m.third (rest / (layout_of m.second).size);
    }

-- the declared indices of the element at position t
unfoldable pub indices_at : Three Section → ℕ → Three ℤ
indices_at x t =
    let rest : ℕ = t / count x.first in
    record {
      first = element_at x.first.triplet (t % count x.first);
      second = element_at x.second.triplet (rest % count x.second);
      third = element_at x.third.triplet (rest / count x.second);
    }

-- ---- questions

-- 17, first of all: is the rank 1, 2 or 3?
abbrev pub of_rank : ℤ → List Question
of_rank r = ask 17 (between (pos 1) (pos 3) r) ∷ []

-- 17 again: is the product of the processors at most 1,024, and that of the element counts at most 2,147,483,647?
abbrev pub of_products : Three Mapping → List Question
of_products m = ask 17 (leb (grid_array m).processors 1024 && leb (grid_array m).size 2147483647) ∷ []

-- "a dimension puts all of its 1 to 7 before the next puts any"
abbrev pub of_mappings : Three Mapping → List Question
of_mappings m = of_mapping m.first ++ of_mapping m.second ++ of_mapping m.third

abbrev pub of_sections : Three Section → List Question
of_sections x = of_section x.first ++ of_section x.second ++ of_section x.third

abbrev pub of_grid : Grid → List Question
of_grid g = of_rank g.rank ++ of_mappings (mappings_of g) ++ of_products (mappings_of g)

abbrev pub of_grid_section : GridSection → List Question
of_grid_section x = of_rank x.rank ++ of_sections (sections_of x) ++ of_products (mappings_in (sections_of x))

-- 8, of the grid processor's number
abbrev pub of_grid_processor : Array → ℤ → List Question
of_grid_processor a q = ask 8 (is_below (pos a.processors) q) ∷ []

-- 9, of declared indices, and of an address
abbrev pub of_indices : Three Mapping → Three ℤ → List Question
of_indices m j =
    ask 9 (is_index m.first j.first && is_index m.second j.second && is_index m.third j.third) ∷ []

abbrev pub of_grid_address : Array → ℤ → ℤ → List Question
of_grid_address a q x = ask 9 (is_below (pos (held a.owner a.size (nat q))) x) ∷ []
