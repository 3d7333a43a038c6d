-- Document 02, A3, "Checkpoints in element order": the questions of a call, what it answers and writes, and the laws of save and
-- load. Definitions, and those statements.
use Rattle.std.specs.Prelude.{ℕ, ◌≤◌, ◌<◌, ◌≡◌, cond, ◌&&◌, List, [], ◌∷◌, ◌++◌, leb, eqb, length, get_or, take, drop}
use Rattle.model.specs.Mappings.{Mapping}
use Rattle.model.specs.Ownership.{nat, owner}
use Rattle.model.specs.Questions.{Question, ask, first_no, of_mapping, Passes}
use Rattle.model.specs.Storages.{storage_place, OneToOne, copied}

-- ---- a call: save or load

-- save reads the storage and writes the words in index order, and load the other way
pub record CopyCall : Type 0 where
  pub mapping : Mapping
  pub read : List ℕ
  pub written : List ℕ

abbrev pub copy_of : Mapping → List ℕ → List ℕ → CopyCall
copy_of m s l = record { mapping = m; read = s; written = l }

-- n, "its 64-bit words"
abbrev pub words_in : Mapping → ℕ
words_in m = nat m.size

-- 13: has each of the two lists at least n words?
abbrev pub of_words : ℕ → List ℕ → List ℕ → List Question
of_words n s l = ask 13 (leb n (length s) && leb n (length l)) ∷ []

abbrev pub of_copy : CopyCall → List Question
of_copy c = of_mapping c.mapping ++ of_words (words_in c.mapping) c.read c.written

pub record CopyAnswer : Type 0 where
  pub refusal : ℕ
  pub needed : ℕ

-- "a list that is too short meets 13 with n"
unfoldable pub copying : CopyCall → CopyAnswer
copying c =
    let e = first_no (of_copy c) in
    cond (eqb e 0) (record { refusal = 0; needed = 0 }) (record { refusal = e; needed = cond (eqb e 13) (words_in c.mapping) 0 })

-- ---- what it writes

-- the place of element i in the storage
abbrev pub place_of : Mapping → ℕ → ℕ
place_of m = storage_place (owner m) (words_in m)

-- the place of element i in index order
abbrev pub in_order : ℕ → ℕ
in_order i = i

-- the list that is written, after its n words were copied from and to these places; of a refusal "no list is written"
unfoldable pub after_copy : (ℕ → ℕ) → (ℕ → ℕ) → CopyCall → List ℕ
after_copy from to c =
    cond (eqb (first_no (of_copy c)) 0) (copied from to (words_in c.mapping) c.read c.written) c.written

-- save: "write its 64-bit words in index order"
abbrev pub saved : CopyCall → List ℕ
saved c = after_copy (place_of c.mapping) in_order c

-- load: "from index order back to any accepted mapping"
abbrev pub loaded : CopyCall → List ℕ
loaded c = after_copy in_order (place_of c.mapping) c

-- ---- the laws

-- a list has room for the array's words
abbrev pub Room : Mapping → List ℕ → Type 0
Room m l = words_in m ≤ length l

-- the first n words of one list, and the rest of another
abbrev pub front_of : ℕ → List ℕ → List ℕ → List ℕ
front_of n s l = take n s ++ drop n l

pub record Checkpoints : Type 0 where
  -- nothing is lost or doubled
  pub places : (m : Mapping) → Passes m → OneToOne (words_in m) (place_of m)
  -- "under one mapping each way undoes the other for every content of n words, and words beyond n in the lent lists stay"
  pub save-load : (m : Mapping) → Passes m → (s w l : List ℕ) → Room m s → Room m w → Room m l
      → loaded (copy_of m (saved (copy_of m s w)) l) ≡ front_of (words_in m) s l
  pub load-save : (m : Mapping) → Passes m → (w s l : List ℕ) → Room m w → Room m s → Room m l
      → saved (copy_of m (loaded (copy_of m w s)) l) ≡ front_of (words_in m) w l
  -- "users restart on another machine shape": each element's word is where the other mapping has it
  pub restart : (m m' : Mapping) → Passes m → Passes m' → words_in m ≡ words_in m' → (s w l : List ℕ) → Room m s → Room m w → Room m' l
      → (i : ℕ) → i < words_in m
      → get_or (loaded (copy_of m' (saved (copy_of m s w)) l)) (place_of m' i) 0 ≡ get_or s (place_of m i) 0
