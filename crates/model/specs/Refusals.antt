-- A refusal as the number of the question that was answered no, and an answer with that number in place of the refusal.
-- Definitions only.
use Rattle.std.specs.Prelude.{ℕ, List, [], ◌∷◌, Result, Ok, Err}
use Rattle.model.specs.declared.refusals.Refusal.{Refusal}
use Rattle.model.specs.declared.refusals.Refusal.TheVariants.{
  Cells,
  Processors,
  Block,
  Alignment,
  Array,
  Triplet,
  Ends,
  Processor,
  Element,
  Place,
  Quota,
  Counts,
  Bounds,
  Sizes,
  Grid,
}

abbrev pub number : Refusal → ℕ
number Cells = 1
number Processors = 2
number Block = 3
number Alignment = 4
number Array = 5
number Triplet = 6
number Ends = 7
number Processor = 8
number Element = 9
number Place = 10
number Quota = 11
number Counts = 12
number Bounds = 15
number Sizes = 16
number Grid = 17

-- what was asked for, or the number
abbrev pub by_number : {A : Type 0} → Result A Refusal → Result A ℕ
by_number (Ok a) = Ok a
by_number (Err e) = Err (number e)

-- of questions alone: 0 if all were answered yes, else the number
abbrev pub asked_as : Result (Unit {0}) Refusal → ℕ
asked_as (Ok u) = 0
asked_as (Err e) = number e

-- the numbers of the refusals that an answer holds, if any
abbrev pub refusals : {A : Type 0} → Result A Refusal → List ℕ
refusals (Ok a) = []
refusals (Err e) = number e ∷ []
