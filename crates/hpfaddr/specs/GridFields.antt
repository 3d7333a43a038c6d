-- Grids and their sections as the C functions take them, and the fields of what these return, as the paper's numbers. Definitions
-- only.
use Rattle.std.specs.Prelude.{ℕ, ◌≡◌, List, ℤ, pos, get_or}
use Rattle.model.specs.declared.Mapping as mappings
use Rattle.model.specs.declared.Section as sections
use Rattle.model.specs.declared.three.Ranked.{Ranked}
use Rattle.model.specs.Mappings.{Mapping, Section}
use Rattle.model.specs.Sections.{triplet_of}
use Rattle.model.specs.declared.three.Three.{Three}
use Rattle.model.specs.Grids.{Grid, GridSection}
use Rattle.model.specs.ByteFills.{in_words}
use Rattle.model.specs.GridCalls.{GridBackAnswer, GridStepsAnswer, GridByteFill, grid_fill, grid_bytes_after}
use Rattle.mapping.specs.Answers.{mapping_of}
use Rattle.fill.specs.Answers.{report_of}
use Rattle.grid.specs.Answers.{indices_from}
use Rattle.hpfaddr.specs.declared.sections.HpfSteps.{HpfSteps}
use Rattle.hpfaddr.specs.declared.sections.HpfFilled.{HpfFilled}
use Rattle.hpfaddr.specs.declared.grids.HpfDimension.{HpfDimension}
use Rattle.hpfaddr.specs.declared.grids.HpfGrid.{HpfGrid}
use Rattle.hpfaddr.specs.declared.grids.HpfGridFound.{HpfGridFound}
use Rattle.hpfaddr.specs.declared.grid_sections.HpfTriplet.{HpfTriplet}
use Rattle.hpfaddr.specs.declared.grid_sections.HpfGridSection.{HpfGridSection}
use Rattle.hpfaddr.specs.declared.grid_sections.HpfGridSteps.{HpfGridSteps}
use Rattle.hpfaddr.specs.Fields.{numbers_of, dealing_from, by_number, steps_fields, filled_fields}

-- ---- a grid

-- the dimension at place i of the three
abbrev pub dimension_at : HpfGrid → ℕ → HpfDimension
dimension_at g i =
    get_or g.dimensions i
    (record {
      cells = pos 0;
      processors = pos 0;
      dealing = pos 0;
      block = pos 0;
      stride = pos 0;
      offset = pos 0;
      size = pos 0;
      array_lower = pos 0;
      template_lower = pos 0;
    })

-- its mapping, with its list: "0 cyclic, any other GEN_BLOCK"
abbrev pub dimension_from : HpfDimension → List ℕ → Mapping
dimension_from d bytes =
    mapping_of d.cells d.processors (by_number d.dealing d.block bytes) d.stride d.offset d.size d.array_lower
    d.template_lower

abbrev pub grid_from : HpfGrid → List ℕ → List ℕ → List ℕ → Grid
grid_from g b c d = record {
  rank = g.rank;
  dimensions = record {
    first = dimension_from (dimension_at g 0) b;
    second = dimension_from (dimension_at g 1) c;
    third = dimension_from (dimension_at g 2) d;
  };
}

-- as the Rattle calls take it
abbrev pub dimension_numbers : HpfDimension → mappings.Mapping
dimension_numbers d =
    numbers_of d.cells d.processors (dealing_from d.dealing d.block) d.stride d.offset d.size d.array_lower
    d.template_lower

abbrev pub grid_numbers : HpfGrid → Ranked mappings.Mapping
grid_numbers g = record {
  rank = g.rank;
  dimensions = record {
    first = dimension_numbers (dimension_at g 0);
    second = dimension_numbers (dimension_at g 1);
    third = dimension_numbers (dimension_at g 2);
  };
}

abbrev pub grid_found_fields : HpfGridFound → GridBackAnswer
grid_found_fields r = record { refusal = r.refusal; indices = indices_from r.first r.second r.third }

-- ---- a section of a grid

abbrev pub triplet_at : HpfGridSection → ℕ → HpfTriplet
triplet_at x i = get_or x.triplets i (record { lower = pos 0; upper = pos 0; stride = pos 0 })

abbrev pub section_in : Mapping → HpfTriplet → Section
section_in m t = record { mapping = m; triplet = triplet_of t.lower t.upper t.stride }

abbrev pub grid_section_from : HpfGridSection → List ℕ → List ℕ → List ℕ → GridSection
grid_section_from x b c d =
    let m : Three Mapping = (grid_from x.grid b c d).dimensions in
    record {
      rank = x.grid.rank;
      dimensions = record {
        first = section_in m.first (triplet_at x 0);
        second = section_in m.second (triplet_at x 1);
        third = section_in m.third (triplet_at x 2);
      };
    }

-- as the Rattle calls take it
abbrev pub dimension_section : HpfDimension → HpfTriplet → sections.Section
dimension_section d t = record { mapping = dimension_numbers d; triplet = triplet_of t.lower t.upper t.stride }

abbrev pub grid_section_numbers : HpfGridSection → Ranked sections.Section
grid_section_numbers x = record {
  rank = x.grid.rank;
  dimensions = record {
    first = dimension_section (dimension_at x.grid 0) (triplet_at x 0);
    second = dimension_section (dimension_at x.grid 1) (triplet_at x 1);
    third = dimension_section (dimension_at x.grid 2) (triplet_at x 2);
  };
}

-- the steps at place i of the three
abbrev pub steps_at : HpfGridSteps → ℕ → HpfSteps
steps_at r i =
    get_or r.dimensions i
    (record {
      refusal = 0;
      count = 0;
      steps = 0;
      cells = 0;
      courses = 0;
      column = pos 0;
      return_cells = 0;
      return_courses = 0;
      return_column = pos 0;
    })

abbrev pub grid_steps_fields : HpfGridSteps → GridStepsAnswer
grid_steps_fields r = record {
  refusal = r.refusal;
  count = r.count;
  dimensions = record { first = steps_fields (steps_at r 0); second = steps_fields (steps_at r 1); third = steps_fields (steps_at r 2) };
}

-- ---- a fill of it

abbrev pub grid_fill_of : GridSection → ℤ → ℤ → ℤ → List ℕ → GridByteFill
grid_fill_of x q t z bs = record { section = x; processor = q; place = t; quota = z; bytes = bs }

-- it returns what the fill of the words that its bytes are reports, and leaves the bytes that the definition says
abbrev pub GridFilledFields : GridByteFill → List ℕ → HpfFilled → Type 0
GridFilledFields c after r = (filled_fields r ≡ report_of (grid_fill (in_words c))) × (after ≡ grid_bytes_after c)
