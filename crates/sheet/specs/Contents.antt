-- How a sheet is read, how its lines are kept, and what a section of them stands for. Definitions only.
use Rattle.std.specs.Prelude.{ℕ, ◌-◌, List, ◌++◌, map, pos, length, replicate, get_or}
use Rattle.model.specs.Mappings.{Section}
use Rattle.model.specs.Sheets.{TemplateLine, ArrayLine, SectionLine, Sheet, section_by}
use Rattle.sheet.specs.declared.Line.{Line}
use Rattle.sheet.specs.declared.Lines.{Lines}
use Rattle.sheet.specs.declared.Content.{Content}
use Rattle.sheet.specs.declared.part.Part.{Part}
use Rattle.sheet.specs.Reading.{Got, via, whole}
use Rattle.sheet.specs.Parts.{lines, part, Parts, parts}

-- ---- lines as the model has them, and back; a line that has fewer than five numbers has 0 for the others

abbrev pub to_template : Line → TemplateLine
to_template x = record { cells = x.first; processors = x.second; block = x.third }

abbrev pub to_array : Line → ArrayLine
to_array x =
    record {
      template = x.name;
      stride = x.first;
      offset = x.second;
      size = x.third;
      lower = x.fourth;
      origin = x.fifth;
    }

abbrev pub to_section : Line → SectionLine
to_section x =
    record { array = x.name; triplet = record { lower = x.first; upper = x.second; stride = x.third } }

abbrev pub to_sheet : Parts → Sheet
to_sheet w =
    record {
      templates = map to_template w.templates;
      arrays = map to_array w.arrays;
      sections = map to_section w.sections;
    }

abbrev pub from_template : TemplateLine → Line
from_template x =
    record {
      name = 0;
      first = x.cells;
      second = x.processors;
      third = x.block;
      fourth = pos 0;
      fifth = pos 0;
    }

abbrev pub from_array : ArrayLine → Line
from_array x =
    record {
      name = x.template;
      first = x.stride;
      second = x.offset;
      third = x.size;
      fourth = x.lower;
      fifth = x.origin;
    }

abbrev pub from_section : SectionLine → Line
from_section x =
    record {
      name = x.array;
      first = x.triplet.lower;
      second = x.triplet.upper;
      third = x.triplet.stride;
      fourth = pos 0;
      fifth = pos 0;
    }

abbrev pub from_sheet : Sheet → Parts
from_sheet w =
    record {
      templates = map from_template w.templates;
      arrays = map from_array w.arrays;
      sections = map from_section w.sections;
    }

-- ---- the whole sheet, and nothing after it

unfoldable pub read_sheet : List ℕ → Got Sheet
read_sheet s = whole (via to_sheet parts s)

-- ---- how lines are kept: in the first of 64 rows, the others 0

abbrev pub no_line : Line
no_line = record { name = 0; first = pos 0; second = pos 0; third = pos 0; fourth = pos 0; fifth = pos 0 }

abbrev pub lines_of : List Line → Lines
lines_of l = record { count = length l; rows = l ++ replicate (64 - length l) no_line }

-- n lines of a part, and all of it, kept so
abbrev pub kept_lines : Part → ℕ → List ℕ → Got Lines
kept_lines k n = via lines_of (lines k n)

abbrev pub kept_part : Part → List ℕ → Got Lines
kept_part k = via lines_of (part k)

abbrev pub kept : Parts → Content
kept w = record { templates = lines_of w.templates; arrays = lines_of w.arrays; sections = lines_of w.sections }

-- the three parts and nothing after them, kept so
abbrev pub kept_whole : List ℕ → Got Content
kept_whole s = whole (via kept parts s)

abbrev pub content_of : Sheet → Content
content_of w = kept (from_sheet w)

-- ---- section j of some content, with the array and the template that it names

unfoldable pub section_in : Content → ℕ → Section
section_in c j =
    let x = get_or c.sections.rows j no_line in
    let a = get_or c.arrays.rows x.name no_line in
    let t = get_or c.templates.rows a.name no_line in
    section_by (to_template t) (to_array a) (to_section x)
