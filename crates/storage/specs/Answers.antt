-- The answer of save and load, each case read as the paper's numbers. Definitions only.
use Rattle.std.specs.Prelude.{ℕ, Bool, cond, ◌&&◌, List, [], ◌∷◌, leb, length, Result, Ok, Err}
use Rattle.model.specs.declared.Dealing.{Dealing}
use Rattle.model.specs.declared.Layout.{Layout}
use Rattle.model.specs.declared.refusals.ListError.{ListError}
use Rattle.model.specs.declared.refusals.ListError.TheVariants.{Needs, Refused}
use Rattle.model.specs.Refusals.{number}
use Rattle.model.specs.Checkpoints.{CopyCall, CopyAnswer, saved, loaded}
use Rattle.storage.specs.Copying.{copied_by}

abbrev pub copied_as : Result (Unit {0}) ListError → CopyAnswer
copied_as (Ok u) = record { refusal = 0; needed = 0 }
copied_as (Err (Needs n)) = record { refusal = 13; needed = n }
copied_as (Err (Refused e)) = record { refusal = number e; needed = 0 }

-- the numbers of the refusals that it holds, if any
abbrev pub copied_refusals : Result (Unit {0}) ListError → List ℕ
copied_refusals (Ok u) = []
copied_refusals (Err (Needs n)) = []
copied_refusals (Err (Refused e)) = number e ∷ []

-- the list that is written
abbrev pub written : Bool → CopyCall → List ℕ
written loading c = cond loading (loaded c) (saved c)

-- ---- an accepted layout

-- 13: has each list at least n words?
abbrev pub has_room : ℕ → List ℕ → List ℕ → Bool
has_room n s to = leb n (length s) && leb n (length to)

abbrev pub copied_in : Layout → List ℕ → List ℕ → Result (Unit {0}) ListError
copied_in l s to = cond (has_room l.size s to) (Ok tt) (Err (Needs l.size))

abbrev pub written_in : Bool → Layout → Dealing → List ℕ → List ℕ → List ℕ
written_in loading l d s to = cond (has_room l.size s to) (copied_by loading l d s to) to
