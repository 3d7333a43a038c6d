-- What a call for a fill of a grid's section answers, what an accepted one passed, and what it leaves in its list. Assumes
-- nothing.
use Prim.Native.Nat.{ℕ, ◌*◌, ◌≤◌}
use mathlib.Core.Path.{◌≡◌, refl}
use mathlib.Core.List.{[], ◌∷◌, ◌++◌}
use native.Mathlib.Omega.{arith}
use lib.ListN.{drop}
use Rattle.numbers.specs.Words.{words_of}
use Rattle.model.specs.Ownership.{nat}
use Rattle.model.specs.Questions.{first_no, ask, of_quota}
use Rattle.model.specs.Axes.{walk_on}
use Rattle.model.specs.Grids.{sections_of, grid_axis, of_grid_section, of_grid_processor}
use Rattle.model.specs.ByteFills.{in_words}
use Rattle.model.specs.GridCalls.{of_grid_place, is_place_on, GridFill, of_grid_fill, grid_request_of, grid_fill, GridByteFill, grid_bytes_after, grid_outcome_of}
use Rattle.model.specs.Demand1.{Answers}
use Rattle.model.specs.GridDemands.{GridByTheRule, GridNotFilled}
use Rattle.model.proofs.QuestionLaws.{Natural, all_yes, both_yes, between_is}
use Rattle.model.proofs.FillCalls.{by-rule, answer-cases, place-le}
use Rattle.model.proofs.ByteFillsHold.{Written, stopped-written, written_on, stays_after, outcome-by}
use Rattle.model.proofs.GridWalks.{grid-walks, element-low}

pub grid-fill-answers : (c : GridFill)
    → Answers (grid_fill c) (λ a. a.refusal) (of_grid_fill c) (λ a. GridByTheRule c a.filled) (λ a. GridNotFilled c a.filled)
unfolding grid_fill grid_request_of
grid-fill-answers c =
    by-rule (walk_on (grid_axis (sections_of c.section))) (of_grid_fill c) (nat c.place) (nat c.quota) c.list refl

-- what an accepted fill passed
pub record GridPassed (c : GridFill) : Type 0 where
  pub section : first_no (of_grid_section c.section) ≡ 0
  pub place : nat c.place ≤ (grid_axis (sections_of c.section)).count
  pub quota : Natural c.quota 3 1000000

pub grid-passed : (c : GridFill) → first_no (of_grid_fill c) ≡ 0 → GridPassed c
grid-passed c e =
    let a = grid_axis (sections_of c.section) in
    let end = (ask 10 (is_place_on a c.processor c.place) ∷ []) ++ of_quota c.quota in
    let rest = both_yes (of_grid_place c.section c.processor) end refl e in
    let last = all_yes end refl rest.1 in
    record {
      section = (both_yes (of_grid_section c.section) (of_grid_processor a.array c.processor) refl rest.0).0;
      place = place-le a c.processor c.place last.0;
      quota = between_is 3 1000000 c.quota last.1.0;
    }

grid-fill-leaves : (c : GridFill) → Written c.list (grid_fill c).filled
unfolding grid_fill grid_request_of
grid-fill-leaves c =
    let a = grid_axis (sections_of c.section) in
    answer-cases (walk_on a) (of_grid_fill c) (nat c.place) (nat c.quota) c.list (Written c.list)
    (λ z.
    let y = grid-passed c z in
    written_on a (grid-walks c.section y.section) (λ t h. omega (arith, element-low c.section y.section t h))
    (nat c.place) (nat c.quota) c.list y.place)
    (stopped-written 0 c.list)

-- of bytes
module _ (c : GridByteFill) where
  pub grid-words-left : Written (words_of 4 c.bytes) (grid_fill (in_words c)).filled
  unfolding in_words
  grid-words-left = grid-fill-leaves (in_words c)

  pub grid-outcome-is : grid_outcome_of c ≡ grid_fill (in_words c)
  unfolding grid_outcome_of
  grid-outcome-is = outcome-by c.bytes (grid_fill (in_words c)) grid-words-left

  pub grid-bytes-stay : (m : ℕ) → 4 * (grid_outcome_of c).filled.entries ≤ m → drop m (grid_bytes_after c) ≡ drop m c.bytes
  unfolding grid_bytes_after grid_outcome_of
  grid-bytes-stay = stays_after c.bytes (grid_fill (in_words c)).filled grid-words-left
