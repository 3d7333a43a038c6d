-- The answers of this crate, each case read as document 01's numbers. Definitions only.
use Rattle.std.specs.Prelude.{ℕ, ◌≤◌, ◌<◌, Bool, true, false, cond, eqb, ℤ, pos, nat_abs, ◌-ℤ◌, Result, Ok, Err}
use Rattle.std.specs.Int.Signed.{le_z}
use Rattle.model.specs.declared.Layout.{Layout}
use Rattle.model.specs.declared.Position.{Position}
use Rattle.model.specs.declared.refusals.Refusal.{Refusal}
use Rattle.model.specs.Refusals.{number}
use Rattle.model.specs.Mappings.{Dealing, Section}
use Rattle.model.specs.declared.Step.{Step}
use Rattle.model.specs.declared.Steps.{Steps}
use Rattle.model.specs.declared.Steps.TheVariants.{NoStep, OneStep, TwoSteps}
use Rattle.model.specs.Ownership.{nat}
use Rattle.model.specs.declared.Triplet.{Triplet}
use Rattle.model.specs.Sections.{count_of}
use Rattle.model.specs.Questions.{is_below, in_range, first_no, of_section}
use Rattle.model.specs.Calls.{StepReport, no_report, forward, backward, SectionStepsAnswer, PlaceAnswer}
use Rattle.mapping.specs.Parts.{part_in}
use Rattle.section.specs.declared.questions.Strided.{Strided}
use Rattle.section.specs.declared.report.Reported.{Reported}
use Rattle.section.specs.declared.report.SectionSteps.{SectionSteps}
use Rattle.section.specs.declared.report.SectionSteps.TheVariants as steps
use Rattle.section.specs.Strides.{ends_in, strided_of, Bounded}
use Rattle.section.specs.Shares.{share_in, place_by}

-- the section if its questions, of which e is the first that is answered no, passed
abbrev pub asked_by : Section → ℕ → Result Strided ℕ
asked_by x e = cond (eqb e 0) (Ok (strided_of x)) (Err e)

-- a triplet on a layout whose first index is lower
abbrev pub strided_in : Layout → ℤ → Triplet → Strided
strided_in m lower x = record {
  layout = m;
  count = count_of x;
  first = record { 0 = nat (x.lower -ℤ lower) };
  stride = nat_abs x.stride;
  upward = le_z (pos 0) x.stride;
}

-- questions 6 and 7 of it, and 1 to 7 of a section
unfoldable pub asked_in : Layout → ℤ → Triplet → Result Strided ℕ
asked_in m lower x =
    let ends = ends_in m.size lower x.lower x.stride (count_of x) in
    cond (in_range x) (cond ends (Ok (strided_in m lower x)) (Err 7)) (Err 6)

unfoldable pub asked_of : Section → Result Strided ℕ
asked_of x = asked_by x (first_no (of_section x))

-- what is known of each case: an accepted section has every bound
abbrev pub Sound : Result Strided ℕ → Type 0
Sound (Ok w) = Bounded w
Sound (Err q) = 0 < q

-- ---- section steps

abbrev pub no_steps : ℕ → SectionStepsAnswer
no_steps e = record { refusal = e; count = 0; steps = 0; first = no_report; second = no_report }

abbrev pub step_as : Reported → StepReport
step_as r = record { cells = r.cells; courses = r.courses; column = r.column }

abbrev pub report_as : SectionSteps → SectionStepsAnswer
report_as (steps.NoStep n) = record { refusal = 0; count = n; steps = 0; first = no_report; second = no_report }
report_as (steps.OneStep n r) = record { refusal = 0; count = n; steps = 1; first = step_as r; second = no_report }
report_as (steps.TwoSteps n r w) = record { refusal = 0; count = n; steps = 2; first = step_as r; second = step_as w }

-- or the refusal
abbrev pub steps_as : Result SectionSteps Refusal → SectionStepsAnswer
steps_as (Ok r) = report_as r
steps_as (Err e) = no_steps (number e)

-- a step that goes back, or on
abbrev pub report_by : Bool → Step → StepReport
report_by true = backward
report_by false = forward

-- steps whose column moves are no larger than n
abbrev pub Short : ℕ → Steps → Type 0
Short n NoStep = Unit {0}
Short n (OneStep r) = r.column ≤ n
Short n (TwoSteps r w) = (r.column ≤ n) × (w.column ≤ n)

-- ---- first place

abbrev pub no_place : ℕ → PlaceAnswer
no_place e = record { refusal = e; place = 0 }

abbrev pub placed_as : Result Position Refusal → PlaceAnswer
placed_as (Ok t) = record { refusal = 0; place = t.0 }
placed_as (Err e) = no_place (number e)

-- what is left to ask of an accepted section, and the answer
unfoldable pub first_place_in : Strided → Dealing → ℤ → PlaceAnswer
first_place_in w d q =
    cond (is_below (pos w.layout.processors) q) (record { refusal = 0; place = place_by (share_in w (nat q) (part_in d (nat q))) })
    (no_place 8)
