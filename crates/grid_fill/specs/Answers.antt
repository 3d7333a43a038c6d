-- The answer of a fill of bytes of a grid's section. Definitions only.
use Rattle.std.specs.Prelude.{ℕ, ◌≡◌, List, Result}
use Rattle.model.specs.Calls.{ToldApart}
use Rattle.model.specs.ByteFills.{in_words}
use Rattle.model.specs.GridCalls.{GridByteFill, grid_fill, grid_bytes_after}
use Rattle.model.specs.declared.refusals.Refusal.{Refusal}
use Rattle.model.specs.Refusals.{refusals}
use Rattle.walk.specs.declared.moves.Report.{Report}
use Rattle.fill.specs.Answers.{report_as, report_of}

-- what it reports is that of the fill of words that it stands for, the bytes afterwards are its own, and a refusal is told apart
abbrev pub GridFilledBytes : GridByteFill → List ℕ → Result Report Refusal → Type 0
GridFilledBytes c after r = (report_as r ≡ report_of (grid_fill (in_words c))) × (after ≡ grid_bytes_after c) × ToldApart (refusals r)
