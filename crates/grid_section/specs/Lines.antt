-- A section of a grid that passed its questions, dimension by dimension. Definitions only.
use Rattle.std.specs.Prelude.{ℕ, ◌*◌, ◌≤◌, ◌<◌, cond, ◌&&◌, List, leb, eqb, Result, Ok, Err}
use Rattle.model.specs.declared.Section as sections
use Rattle.model.specs.declared.three.Ranked.{Ranked}
use Rattle.model.specs.Mappings.{dealing_with, section_with}
use Rattle.model.specs.Questions.{first_no}
use Rattle.model.specs.Grids.{up_to, grid_section_with, of_grid_section}
use Rattle.mapping.specs.Parts.{Listed}
use Rattle.section.specs.declared.questions.Strided.{Strided}
use Rattle.section.specs.Strides.{strided_of, Bounded}
use Rattle.grid.specs.Ranks.{single_parts}
use Rattle.grid_section.specs.declared.lines.Line.{Line}
use Rattle.model.specs.declared.three.Three.{Three}

-- ---- the sections

abbrev pub line_on : Strided → sections.Section → Line
line_on w x = record { section = w; dealing = x.mapping.dealing }

abbrev pub line_with : sections.Section → List ℕ → Line
line_with x sizes = line_on (strided_of (section_with x sizes)) x

-- the sections of three dimensions; one element stands for a dimension past the rank
abbrev pub sections_to : Ranked sections.Section → Three sections.Section
sections_to x = up_to x.rank single_parts x.dimensions

abbrev pub lines_with : Ranked sections.Section → List ℕ → List ℕ → List ℕ → Three Line
lines_with x b c d = record {
  first = line_with (sections_to x).first b;
  second = line_with (sections_to x).second c;
  third = line_with (sections_to x).third d;
}

-- how many processors the grid has, and positions the section
abbrev pub processors_on : Three Line → ℕ
processors_on x = x.first.section.layout.processors * (x.second.section.layout.processors * x.third.section.layout.processors)

abbrev pub positions_on : Three Line → ℕ
positions_on x = x.first.section.count * (x.second.section.count * x.third.section.count)

-- ---- the questions

-- 17 of the products, of three accepted sections
abbrev pub limited_by : Line → Line → Line → Result (Three Line) ℕ
limited_by k l m =
    let a = k.section.layout in
    let b = l.section.layout in
    let c = m.section.layout in
    cond (leb (a.processors * (b.processors * c.processors)) 1024 && leb (a.size * (b.size * c.size)) 2147483647)
    (Ok (record { first = k; second = l; third = m }))
    (Err 17)

-- the sections of the dimensions if their questions passed, or the first that is answered no
unfoldable pub asked_of : Ranked sections.Section → List ℕ → List ℕ → List ℕ → Result (Three Line) ℕ
asked_of x b c d =
    let e = first_no (of_grid_section (grid_section_with x b c d)) in
    cond (eqb e 0) (Ok (lines_with x b c d)) (Err e)

-- ---- what a yes to every question says

pub record Limited (x : Three Line) : Type 0 where
  pub first : Bounded x.first.section
  pub second : Bounded x.second.section
  pub third : Bounded x.third.section
  pub processors : processors_on x ≤ 1024
  pub positions : positions_on x ≤ 2147483647

-- each list passed question 16
pub record AllListed (x : Three Line) (b c d : List ℕ) : Type 0 where
  pub first : Listed x.first.section.layout (dealing_with x.first.dealing b)
  pub second : Listed x.second.section.layout (dealing_with x.second.dealing c)
  pub third : Listed x.third.section.layout (dealing_with x.third.dealing d)

abbrev pub Sound : Result (Three Line) ℕ → Type 0
Sound (Ok x) = Limited x
Sound (Err e) = 0 < e
