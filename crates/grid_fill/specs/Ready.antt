-- Questions 8, 10 and 11 of a fill of a grid's section, after those about the section, and what a fill that passed them may count
-- on. Definitions only.
use Rattle.std.specs.Prelude.{ℕ, ◌≤◌, cond, List, [], ◌∷◌, eqb, ℤ, pos, Result, Ok, Err}
use Rattle.numbers.specs.Words.{words_of}
use Rattle.model.specs.Mappings.{dealing_with, Section}
use Rattle.model.specs.Ownership.{nat, held}
use Rattle.model.specs.Questions.{Question, ask, first_no, between, is_below}
use Rattle.model.specs.Filling.{fill_by}
use Rattle.model.specs.declared.three.Three.{Three}
use Rattle.model.specs.Grids.{GridSection, sections_of}
use Rattle.model.specs.GridCalls.{of_grid_fill}
use Rattle.mapping.specs.Parts.{owner_for}
use Rattle.walk.specs.declared.moves.Report.{Report}
use Rattle.walk.specs.Driving.{ByteFilled}
use Rattle.grid_section.specs.declared.lines.Line.{Line}
use Rattle.section.specs.declared.shares.Share.{Share}
use Rattle.grid_section.specs.Lines.{processors_on}
use Rattle.grid_section.specs.Shares.{shares_on, shares_in, is_place_by}
use Rattle.grid_fill.specs.declared.ready.Start.{Start}
use Rattle.grid_fill.specs.Rows.{held_on, grid_walk}
use Rattle.grid_fill.specs.Plans.{SourceOf, PlaceIn}

-- ---- the questions

-- a fill, if its questions, of which e is the first that is answered no, passed
abbrev pub ready_by : Start → ℕ → Result Start ℕ
ready_by s e = cond (eqb e 0) (Ok s) (Err e)

-- grid processor q's fill of sections of three dimensions
abbrev pub start_of : Three Section → ℤ → ℤ → ℤ → Start
start_of x q t z =
    let s : Three Share = shares_in x (nat q) in
    record {
      shares = s;
      elements = held_on x.first s.first.processor;
      rows = held_on x.second s.second.processor;
      place = record { 0 = nat t };
      quota = nat z;
    }

-- nothing is asked about the list
unfoldable pub ready_of : GridSection → ℤ → ℤ → ℤ → Result Start ℕ
ready_of x q t z =
    ready_by (start_of (sections_of x) q t z) (first_no (of_grid_fill (record { section = x; processor = q; place = t; quota = z; list = [] })))

-- how many elements of an accepted dimension coordinate q has
abbrev pub held_in : Line → List ℕ → ℕ → ℕ
held_in x sizes q = held (owner_for x.section.layout (dealing_with x.dealing sizes)) x.section.layout.size q

abbrev pub start_in : Three Line → List ℕ → List ℕ → List ℕ → ℤ → ℤ → ℤ → Start
start_in x b c d q t z =
    let s : Three Share = shares_on x b c d (nat q) in
    record {
      shares = s;
      elements = held_in x.first b s.first.processor;
      rows = held_in x.second c s.second.processor;
      place = record { 0 = nat t };
      quota = nat z;
    }

-- what is left to ask of an accepted section, and the answer
abbrev pub left_of : ℕ → Three Share → ℤ → ℤ → ℤ → List Question
left_of processors s q t z =
    ask 8 (is_below (pos processors) q) ∷ ask 10 (is_place_by s t) ∷ ask 11 (between (pos 3) (pos 1000000) z) ∷ []

unfoldable pub ready_in : Three Line → List ℕ → List ℕ → List ℕ → ℤ → ℤ → ℤ → Result Start ℕ
ready_in x b c d q t z =
    ready_by (start_in x b c d q t z) (first_no (left_of (processors_on x) (shares_on x b c d (nat q)) q t z))

-- ---- what a yes to all of them says

-- it is one of an accepted section
pub record Accepted (s : Start) : Type 0 where
  pub source : GridSection
  pub shares : SourceOf s.shares s.elements s.rows source
  pub place : PlaceIn s.shares s.place.0
  pub least : 3 ≤ s.quota
  pub most : s.quota ≤ 1000000

-- ---- what a fill that passed them gives

-- whatever accepted section it was, the bytes are those after the fill along its walk
abbrev pub FillsFrom : Start → List ℕ → List ℕ → Report → Type 0
FillsFrom s bs bs' r =
    (x : GridSection) → SourceOf s.shares s.elements s.rows x
    → ByteFilled (fill_by (grid_walk x) s.place.0 s.quota (words_of 4 bs)) bs bs' r
