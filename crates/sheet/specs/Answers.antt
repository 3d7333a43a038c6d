-- The code's answers as readings of the sheet's bytes, and what is promised of reading a sheet. Definitions only.
use Rattle.std.specs.Prelude.{ℕ, ◌-◌, ◌≡◌, List, Result, Ok, Err, IfOk, length}
use Rattle.model.specs.Sheets.{Sheet, Reads}
use Rattle.sheet.specs.declared.Content.{Content}
use Rattle.sheet.specs.declared.Malformed.{Malformed}
use Rattle.sheet.specs.declared.number.Cursor.{Cursor}
use Rattle.sheet.specs.Reading.{Got, got, bad}
use Rattle.sheet.specs.Contents.{content_of}

-- ---- the readers inside

-- a reader's result: a value and the bytes after it, or the bytes from a refusal's place on
abbrev pub got_in : {A : Type 0} → Result (A × Cursor) Cursor → Got A
got_in (Ok x) = got x.0 x.1.rest.now
got_in (Err c) = bad c.rest.now

-- ---- the whole sheet

-- the answer for a sheet of n bytes
abbrev pub read_as : ℕ → Got Sheet → Result Content Malformed
read_as n (got w t) = Ok (content_of w)
read_as n (bad t) = Err (record { 0 = n - length t })

-- document 01's number and place of each case
abbrev pub refusal_in : Result Content Malformed → ℕ
refusal_in (Ok c) = 0
refusal_in (Err e) = 14

abbrev pub place_in : Result Content Malformed → ℕ
place_in (Ok c) = 0
place_in (Err e) = e.0

-- by the model alone: the result is the answer to question 14 for the bytes s, and the content, where there is one, is the sheet's
pub record Promised (s : List ℕ) (r : Result Content Malformed) : Type 0 where
  pub sheet : Sheet
  pub reads : Reads s (refusal_in r) (place_in r) sheet
  pub content : IfOk r (λ c. c ≡ content_of sheet)
