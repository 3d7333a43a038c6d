-- Document 01, "Transfers": for left(section) = right(section), the entries of a pair of processors, in the order of document 02,
-- A2; the questions of a call, and what it answers and writes. Definitions only.
use Rattle.std.specs.Prelude.{ℕ, ◌<◌, ◌≡◌, Bool, cond, ◌&&◌, List, [], ◌∷◌, ◌++◌, map, leb, eqb, ℤ, length, get_or, drop}
use Rattle.numbers.specs.Search.{passing, sum_below}
use Rattle.model.specs.Mappings.{Section}
use Rattle.model.specs.Ownership.{nat}
use Rattle.model.specs.Sections.{layout, count, address, owns_at}
use Rattle.model.specs.Questions.{Question, ask, first_no, of_section, of_processor}

-- ---- the entries of a pair

-- "sender q owns right elements, receiver m left ones": is position t an entry of their pair?
unfoldable pub is_entry : Section → Section → ℕ → ℕ → ℕ → Bool
is_entry left right q m t = owns_at right q t && owns_at left m t

-- "the entries of the pair are all positions t owned by q on the right and m on the left"; A2: "in rising section position"
unfoldable pub pair_places : Section → Section → ℕ → ℕ → List ℕ
pair_places left right q m = passing (is_entry left right q m) 0 (count left)

-- ---- a call

-- the three lists: section positions, sender's addresses, receiver's addresses
pub record Lists : Type 0 where
  pub positions : List ℕ
  pub sent : List ℕ
  pub received : List ℕ

pub record TransferCall : Type 0 where
  pub left : Section
  pub right : Section
  pub sender : ℤ
  pub receiver : ℤ
  pub lists : Lists

-- 12
abbrev pub of_counts : ℕ → ℕ → List Question
of_counts n k = ask 12 (eqb n k) ∷ []

-- 13, of a pair of n entries
abbrev pub of_room : ℕ → Lists → List Question
of_room n x = ask 13 (leb n (length x.positions) && leb n (length x.sent) && leb n (length x.received)) ∷ []

-- "1 to 7 for the left, 1 to 7 for the right, 8 for sender, 8 for receiver, 12"
abbrev pub of_pair : Section → Section → ℤ → ℤ → List Question
of_pair left right q m =
    of_section left ++ of_section right ++ of_processor right.mapping q ++ of_processor left.mapping m
    ++ of_counts (count left) (count right)

-- the positions of the pair, and how many entries it has
abbrev pub places_of : TransferCall → List ℕ
places_of c = pair_places c.left c.right (nat c.sender) (nat c.receiver)

unfoldable pub entries_of : TransferCall → ℕ
entries_of c = length (places_of c)

-- and 13
abbrev pub of_transfer : TransferCall → List Question
of_transfer c = of_pair c.left c.right c.sender c.receiver ++ of_room (entries_of c) c.lists

-- "13 adds the entries needed"; every other field of a refusal is 0
pub record TransferAnswer : Type 0 where
  pub refusal : ℕ
  pub entries : ℕ
  pub needed : ℕ

-- "the call returns how many there are"
unfoldable pub transfers : TransferCall → TransferAnswer
transfers c =
    let e = first_no (of_transfer c) in
    let n = entries_of c in
    cond (eqb e 0) (record { refusal = 0; entries = n; needed = 0 })
    (record { refusal = e; entries = 0; needed = cond (eqb e 13) n 0 })

-- ---- what a call writes

-- "list entries after those stay": these entries, followed by what stood after them
abbrev pub fronted : List ℕ → List ℕ → List ℕ
fronted xs l = xs ++ drop (length xs) l

-- "as t, sender's address, receiver's address, in three lists": the entries of these positions, by the addresses on both sides
abbrev pub with_entries : List ℕ → (ℕ → ℕ) → (ℕ → ℕ) → Lists → Lists
with_entries ts sender receiver x = record {
  positions = fronted ts x.positions;
  sent = fronted (map sender ts) x.sent;
  received = fronted (map receiver ts) x.received;
}

-- the lists after a call: of a refusal "no list is written"
unfoldable pub lists_after : TransferCall → Lists
lists_after c =
    cond (eqb (first_no (of_transfer c)) 0) (with_entries (places_of c) (address c.right) (address c.left) c.lists) c.lists

-- ---- all pairs of an assignment

-- position t is entry i of the pair of sender q and receiver m
pub record InPair (left right : Section) (t q m i : ℕ) : Type 0 where
  pub sender : q < (layout right).processors
  pub receiver : m < (layout left).processors
  pub entry : i < length (pair_places left right q m)
  pub position : get_or (pair_places left right q m) i 0 ≡ t

-- position t stands in exactly one pair, once
pub record InOnePair (left right : Section) (t : ℕ) : Type 0 where
  pub sender : ℕ
  pub receiver : ℕ
  pub entry : ℕ
  pub stands : InPair left right t sender receiver entry
  pub only : (q m i : ℕ) → InPair left right t q m i → (q ≡ sender) × (m ≡ receiver) × (i ≡ entry)

-- how many entries all pairs have
unfoldable pub entries_in_all : Section → Section → ℕ
entries_in_all left right =
    sum_below (layout right).processors (λ q. sum_below (layout left).processors (λ m. length (pair_places left right q m)))

pub record Assigned (left right : Section) : Type 0 where
  pub once : (t : ℕ) → t < count left → InOnePair left right t
  pub all : entries_in_all left right ≡ count left
  -- A2: "the entries of a pair are from now on in rising section position"
  pub rising : (q m i j : ℕ) → i < j → j < length (pair_places left right q m)
      → get_or (pair_places left right q m) i 0 < get_or (pair_places left right q m) j 0
