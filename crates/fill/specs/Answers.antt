-- The answers of the public fills, each case read as document 01's numbers. Definitions only.
use Rattle.std.specs.Prelude.{ℕ, ◌≡◌, List, Result, Ok, Err}
use Rattle.model.specs.Filling.{Outcome, stopped}
use Rattle.model.specs.Calls.{fill, ToldApart}
use Rattle.model.specs.ByteFills.{ByteFill, in_words, bytes_after}
use Rattle.model.specs.declared.refusals.Refusal.{Refusal}
use Rattle.model.specs.Refusals.{number, refusals}
use Rattle.walk.specs.declared.moves.Report.{Report}

-- a fill of words, with its list afterwards
abbrev pub outcome_as : Result Report Refusal → List ℕ → Outcome
outcome_as (Ok r) l =
    record { refusal = 0; filled = record { entries = r.entries; tries = r.tries; place = r.place.0; list = l } }
outcome_as (Err e) l = record { refusal = number e; filled = stopped 0 l }

-- what a fill returns, without its list
pub record FillReport : Type 0 where
  pub refusal : ℕ
  pub entries : ℕ
  pub tries : ℕ
  pub place : ℕ

abbrev pub report_as : Result Report Refusal → FillReport
report_as (Ok r) = record { refusal = 0; entries = r.entries; tries = r.tries; place = r.place.0 }
report_as (Err e) = record { refusal = number e; entries = 0; tries = 0; place = 0 }

abbrev pub report_of : Outcome → FillReport
report_of o =
    record { refusal = o.refusal; entries = o.filled.entries; tries = o.filled.tries; place = o.filled.place }

-- a fill of bytes: what it reports is that of the fill of words that it stands for, the bytes afterwards are its own, and a
-- refusal is told apart
abbrev pub FilledBytes : ByteFill → List ℕ → Result Report Refusal → Type 0
FilledBytes c after r = (report_as r ≡ report_of (fill (in_words c))) × (after ≡ bytes_after c) × ToldApart (refusals r)
