-- What is proved of reading a sheet beside its contract. Statements only.
use Rattle.std.specs.Prelude.{ℕ, ◌≡◌, true, List, Result}
use Rattle.sheet.specs.declared.TheConstants.{NO_CONTENT}
use Rattle.sheet.specs.declared.Content.{Content}
use Rattle.sheet.specs.declared.Malformed.{Malformed}
use Rattle.model.specs.Sheets.{no_sheet}
use Rattle.sheet.specs.Contents.{content_of}
use Rattle.sheet.specs.Answers.{Promised}
use Rattle.sheet.specs.Cases.{every, table}

pub record Promises : Type 0 where
  -- the contract leaves nothing open: it fixes the refusal, its place and the content
  pub unique : (s : List ℕ) (r r' : Result Content Malformed) → Promised s r → Promised s r' → r ≡ r'
  -- what a caller takes where a sheet is refused is the content of a sheet without parts
  pub none : NO_CONTENT ≡ content_of no_sheet
  -- the table of cases
  pub cases : every table ≡ true
