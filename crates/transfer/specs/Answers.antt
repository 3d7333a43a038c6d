-- The answer of `transfers`, each case read as document 01's numbers, and the lists of a pair. Definitions only.
use Rattle.std.specs.Prelude.{ℕ, Bool, cond, ◌&&◌, List, [], ◌∷◌, leb, ℤ, length, Result, Ok, Err}
use Rattle.model.specs.declared.refusals.ListError.{ListError}
use Rattle.model.specs.declared.refusals.ListError.TheVariants.{Needs, Refused}
use Rattle.model.specs.Mappings.{Section}
use Rattle.model.specs.Refusals.{number}
use Rattle.model.specs.Transfers.{Lists, TransferCall, TransferAnswer, with_entries}
use Rattle.section.specs.Shares.{address_by}
use Rattle.transfer.specs.declared.questions.Pair.{Pair}
use Rattle.transfer.specs.Pairs.{places}

abbrev pub lists_of : List ℕ → List ℕ → List ℕ → Lists
lists_of positions sent received = record { positions = positions; sent = sent; received = received }

abbrev pub call_of : Section → Section → ℤ → ℤ → Lists → TransferCall
call_of left right q m x = record { left = left; right = right; sender = q; receiver = m; lists = x }

abbrev pub transferred_as : Result ℕ ListError → TransferAnswer
transferred_as (Ok n) = record { refusal = 0; entries = n; needed = 0 }
transferred_as (Err (Needs n)) = record { refusal = 13; entries = 0; needed = n }
transferred_as (Err (Refused e)) = record { refusal = number e; entries = 0; needed = 0 }

-- the numbers of the refusals that it holds, if any
abbrev pub transferred_refusals : Result ℕ ListError → List ℕ
transferred_refusals (Ok n) = []
transferred_refusals (Err (Needs n)) = []
transferred_refusals (Err (Refused e)) = number e ∷ []

-- ---- an accepted pair

-- its positions, in rising order
abbrev pub rising : Pair → List ℕ
rising p = places p.sender p.receiver

-- 13: has each list at least n entries?
abbrev pub has_room : ℕ → Lists → Bool
has_room n x = leb n (length x.positions) && leb n (length x.sent) && leb n (length x.received)

abbrev pub listed_in : Pair → Lists → Result ℕ ListError
listed_in p x = let n = length (rising p) in cond (has_room n x) (Ok n) (Err (Needs n))

-- its entries, at the front of each list
abbrev pub rising_lists : Pair → Lists → Lists
rising_lists p x = with_entries (rising p) (address_by p.sender) (address_by p.receiver) x

abbrev pub lists_in : Pair → Lists → Lists
lists_in p x = cond (has_room (length (rising p)) x) (rising_lists p x) x
