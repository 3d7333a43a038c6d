-- Every number that a call about a section of a grid answers fits its field of the C header; those about a grid are in model's
-- `GridSizes`.
use Prim.Native.Nat.{◌≤◌}
use mathlib.Core.Path.{◌≡◌, refl}
use native.Mathlib.Nat.{le_refl}
use native.Mathlib.Omega.{arith}
use lib.IntN.{ℤ}
use Rattle.numbers.proofs.SearchLaws.{head-le}
use Rattle.model.specs.Mappings.{Section}
use Rattle.model.specs.Ownership.{nat}
use Rattle.model.specs.Sections.{count}
use Rattle.model.specs.Steps.{steps_of}
use Rattle.model.specs.Filling.{Filled, answer}
use Rattle.model.specs.Questions.{first_no, of_section}
use Rattle.model.specs.Axes.{Axis, owns_on, places_on, first_on, walk_on}
use Rattle.model.specs.declared.three.Three.{Three}
use Rattle.model.specs.Grids.{GridSection, sections_of, grid_axis, of_grid_section, of_grid_processor}
use Rattle.model.specs.Calls.{steps_report}
use Rattle.model.specs.GridCalls.{grid_steps, of_grid_place, grid_first_place, GridFill, of_grid_fill, grid_request_of, grid_fill}
use Rattle.model.proofs.QuestionLaws.{both_yes}
use Rattle.model.proofs.AnsweredLaws.{refusal-le, answered}
use Rattle.model.proofs.StepSizes.{steps_low}
use Rattle.model.proofs.FillCalls.{answer-cases}
use Rattle.model.proofs.GridFillCalls.{grid-passed}
use Rattle.model.proofs.GridSizes.{grid-fill-bounds}
use Rattle.section.specs.Strides.{strided_of}
use Rattle.fill.specs.Answers.{report_of}
use Rattle.grid_section.proofs.LineLaws.{accepted, positions-low}
use Rattle.hpfaddr.specs.Sizes.{In32, StepsFit, GridStepsFit, PlacedFits, FilledFits}
use Rattle.hpfaddr.proofs.AnswerSizes.{count_small, report-fits}

grid-count-small : (x : GridSection) → first_no (of_grid_section x) ≡ 0 → (grid_axis (sections_of x)).count ≤ 2147483647
unfolding grid_axis strided_of
grid-count-small x ok = positions-low (sections_of x) (accepted x ok)

-- ---- section steps

dimension-fits : (s : Section) → first_no (of_section s) ≡ 0 → StepsFit (steps_report (count s) (steps_of s))
dimension-fits s ok = report-fits (count s) (omega (arith, count_small s ok)) (steps_of s) (steps_low s ok)

pub grid-steps-small : (x : GridSection) → GridStepsFit (grid_steps x)
unfolding grid_steps
grid-steps-small x =
    answered GridStepsFit (of_grid_section x) refl _ _
    (λ none.
    let s : Three Section = sections_of x in
    let y = accepted x none in (
      omega arith,
      omega (arith, grid-count-small x none),
      dimension-fits s.first y.first,
      dimension-fits s.second y.second,
      dimension-fits s.third y.third,
    ))
    (λ low. omega arith)

-- ---- first place

pub grid-first-place-small : (x : GridSection) (q : ℤ) → PlacedFits (grid_first_place x q)
unfolding grid_first_place first_on places_on
grid-first-place-small x q =
    answered PlacedFits (of_grid_place x q) refl _ _
    (λ none.
    let a : Axis = grid_axis (sections_of x) in
    let ok = (both_yes (of_grid_section x) (of_grid_processor a.array q) refl none).0 in
    (omega arith, omega (arith, head-le (owns_on a (nat q)) a.count a.count a.count 0 (le_refl _) (omega arith), grid-count-small x ok)))
    (λ low. omega arith)

-- ---- fill

place-small : (c : GridFill) → In32 (grid_fill c).filled.place
unfolding grid_fill grid_request_of
place-small c =
    let a : Axis = grid_axis (sections_of c.section) in
    answer-cases (walk_on a) (of_grid_fill c) (nat c.place) (nat c.quota) c.list (λ (f : Filled). f.place ≤ a.count → In32 f.place)
    (λ z h. omega (arith, grid-count-small c.section (grid-passed c z).section))
    (λ h. omega arith)
    (grid-fill-bounds c).place

pub grid-fill-small : (c : GridFill) → FilledFits (report_of (grid_fill c))
unfolding grid_fill answer grid_request_of
grid-fill-small c =
    let w = grid-fill-bounds c in
    (omega (arith, refusal-le 17 (of_grid_fill c) refl), omega (arith, w.entries, w.tries), omega (arith, w.tries), place-small c)
