-- The answers of this crate, each case read as document 02's numbers. Definitions only.
use Rattle.std.specs.Prelude.{ℕ, cond, List, [], ℤ, pos, Result, Ok, Err}
use Rattle.model.specs.declared.refusals.Refusal.{Refusal}
use Rattle.model.specs.Refusals.{number}
use Rattle.model.specs.Mappings.{dealing_with}
use Rattle.model.specs.Ownership.{nat}
use Rattle.model.specs.Questions.{is_below}
use Rattle.model.specs.Calls.{steps_report, SectionStepsAnswer, PlaceAnswer}
use Rattle.model.specs.GridCalls.{GridStepsAnswer, no_steps}
use Rattle.section.specs.Shares.{steps_for}
use Rattle.section.specs.Answers as section
use Rattle.grid_section.specs.declared.lines.Line.{Line}
use Rattle.model.specs.declared.three.Three.{Three}
use Rattle.grid_section.specs.declared.steps.GridSteps.{GridSteps}
use Rattle.grid_section.specs.Lines.{processors_on, positions_on}
use Rattle.grid_section.specs.Shares.{shares_on, first_by}

-- ---- section steps

abbrev pub not_stepped : ℕ → GridStepsAnswer
not_stepped e = record { refusal = e; count = 0; dimensions = record { first = no_steps; second = no_steps; third = no_steps } }

abbrev pub report_as : GridSteps → GridStepsAnswer
report_as s = record {
  refusal = 0;
  count = s.count;
  dimensions = record { first = section.report_as s.dimensions.first; second = section.report_as s.dimensions.second; third = section.report_as s.dimensions.third };
}

-- or the refusal
abbrev pub steps_as : Result GridSteps Refusal → GridStepsAnswer
steps_as (Ok s) = report_as s
steps_as (Err e) = not_stepped (number e)

-- the steps of one dimension, which have nothing to do with its list
abbrev pub report_on : Line → SectionStepsAnswer
report_on x = steps_report x.section.count (steps_for x.section (dealing_with x.dealing []))

abbrev pub steps_on : Three Line → GridStepsAnswer
steps_on x = record {
  refusal = 0;
  count = positions_on x;
  dimensions = record { first = report_on x.first; second = report_on x.second; third = report_on x.third };
}

-- ---- first place

-- question 8, of an accepted section, and the answer
unfoldable pub first_place_on : Three Line → List ℕ → List ℕ → List ℕ → ℤ → PlaceAnswer
first_place_on x b c d q =
    cond (is_below (pos (processors_on x)) q) (record { refusal = 0; place = first_by (shares_on x b c d (nat q)) }) (section.no_place 8)
