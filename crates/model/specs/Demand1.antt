-- Demand 1 as a statement, a field for each call: "the answer to any call, on whatever numbers, lists or sheet, is the full
-- result or the first refusal number that applies. A refusal carries only what its entry names and writes nothing in a lent
-- list." That every call ends is what the prover asks of each function.
use Rattle.std.specs.Prelude.{ℕ, ◌<◌, ◌≡◌, Bool, true, false, List, [], ◌∷◌, ◌++◌, map, ℤ, pos, length, get_or, take, drop}
use Rattle.model.specs.Mappings.{Mapping, Section}
use Rattle.model.specs.Ownership.{nat, from_lower, declared_index, owner, rank, held, back_to}
use Rattle.model.specs.Sections.{count, address, first_place}
use Rattle.model.specs.Steps.{steps_of}
use Rattle.model.specs.Filling.{Filled, fill_by}
use Rattle.model.specs.Questions.{Question, ask, first_no, AllYes, of_mapping, of_section, of_processor, of_index, of_address}
use Rattle.model.specs.Calls.{ownership, going_back, local_count, SectionStepsAnswer, steps_report, section_steps, first_place_at}
use Rattle.model.specs.Calls.{FillCall, of_fill, walk_of, fill}
use Rattle.model.specs.ByteFills.{ByteFill, in_words, store_entries, bytes_after, outcome_of}
use Rattle.model.specs.Transfers.{TransferCall, TransferAnswer, places_of, of_transfer, entries_of, transfers, lists_after}
use Rattle.model.specs.Checkpoints.{CopyCall, CopyAnswer, words_in, of_copy, copying, place_of, in_order, saved, loaded}
use Rattle.model.specs.Sheets.{Sheet, IsPrint, Place, no_sheet, Reads}

-- ---- any call

-- The answer a of a call that puts these questions. Its refusal is the number of the first one answered no, and 0 only where
-- every one is answered yes. Then it is the full result; else it has nothing but what the refusal's entry names.
pub record Answers {A : Type 0} (a : A) (refusal : A → ℕ) (qs : List Question) (Full Nothing : A → Type 0) : Type 0 where
  pub first : refusal a ≡ first_no qs
  pub every : refusal a ≡ 0 → AllYes qs
  pub accepted : refusal a ≡ 0 → Full a
  pub refused : (refusal a ≡ 0 → ⊥) → Nothing a

-- "every other field is 0"
abbrev pub Zeros : List ℕ → Type 0
Zeros [] = Unit {0}
Zeros (n ∷ ns) = (n ≡ 0) × Zeros ns

-- ---- what each call has but for its refusal

-- no count and no step
abbrev pub NoSteps : SectionStepsAnswer → Type 0
NoSteps a =
    Zeros (a.count ∷ a.steps ∷ a.first.cells ∷ a.first.courses ∷ a.second.cells ∷ a.second.courses ∷ [])
    × (a.first.column ≡ pos 0) × (a.second.column ≡ pos 0)

-- what the rule of filling gives for the call's numbers and list, and nothing
abbrev pub ByTheRule : FillCall → Filled → Type 0
ByTheRule c f = f ≡ fill_by (walk_of c.section) (nat c.place) (nat c.quota) c.list

abbrev pub NotFilled : FillCall → Filled → Type 0
NotFilled c f = Zeros (f.entries ∷ f.tries ∷ f.place ∷ []) × (f.list ≡ c.list)

-- the pair's positions followed by what stood after them, and their addresses on both sides followed by what stood there
abbrev pub Listed : TransferCall → TransferAnswer → Type 0
Listed c a =
    let ts : List ℕ = places_of c in
    (a.entries ≡ length ts) × (a.needed ≡ 0)
    × ((lists_after c).positions ≡ ts ++ drop a.entries c.lists.positions)
    × ((lists_after c).sent ≡ map (address c.right) ts ++ drop a.entries c.lists.sent)
    × ((lists_after c).received ≡ map (address c.left) ts ++ drop a.entries c.lists.received)

-- "13 adds the entries needed"
abbrev pub NotListed : TransferCall → TransferAnswer → Type 0
NotListed c a =
    (a.entries ≡ 0) × (a.refusal ≡ 13 → a.needed ≡ entries_of c) × ((a.refusal ≡ 13 → ⊥) → a.needed ≡ 0)
    × (lists_after c ≡ c.lists)

-- each element's word, copied from its place to its place; words beyond n stay
abbrev pub WordsCopied : (ℕ → ℕ) → (ℕ → ℕ) → CopyCall → List ℕ → CopyAnswer → Type 0
WordsCopied from to c after a =
    let n : ℕ = words_in c.mapping in
    (a.needed ≡ 0) × ((i : ℕ) → i < n → get_or after (to i) 0 ≡ get_or c.read (from i) 0)
    × (drop n after ≡ drop n c.written) × (length after ≡ length c.written)

-- "a list that is too short meets 13 with n"
abbrev pub NoneCopied : CopyCall → List ℕ → CopyAnswer → Type 0
NoneCopied c after a =
    (a.refusal ≡ 13 → a.needed ≡ words_in c.mapping) × ((a.refusal ≡ 13 → ⊥) → a.needed ≡ 0) × (after ≡ c.written)

-- the answer to question 14: is s the print of a well-formed sheet?
pub record Decides (s : List ℕ) (b : Bool) : Type 0 where
  pub yes : b ≡ true → (w : Sheet) × IsPrint w s
  pub no : b ≡ false → (w : Sheet) → IsPrint w s → ⊥

-- ---- every call

pub record Demand1 : Type 0 where
  pub of-ownership : (m : Mapping) (j : ℤ)
      → Answers (ownership m j) (λ a. a.refusal) (of_mapping m ++ of_index m j)
      (λ a. (a.processor ≡ owner m (from_lower m j)) × (a.address ≡ rank (owner m) (from_lower m j)))
      (λ a. Zeros (a.processor ∷ a.address ∷ []))
  pub of-going-back : (m : Mapping) (q x : ℤ)
      → Answers (going_back m q x) (λ a. a.refusal) (of_mapping m ++ of_processor m q ++ of_address m q x)
      (λ a. a.index ≡ declared_index m (back_to (owner m) (nat m.size) (nat q) (nat x)))
      (λ a. a.index ≡ pos 0)
  pub of-local-count : (m : Mapping) (q : ℤ)
      → Answers (local_count m q) (λ a. a.refusal) (of_mapping m ++ of_processor m q)
      (λ a. a.elements ≡ held (owner m) (nat m.size) (nat q))
      (λ a. Zeros (a.elements ∷ []))
  pub of-section-steps : (x : Section)
      → Answers (section_steps x) (λ a. a.refusal) (of_section x) (λ a. a ≡ steps_report (count x) (steps_of x)) NoSteps
  pub of-first-place : (x : Section) (q : ℤ)
      → Answers (first_place_at x q) (λ a. a.refusal) (of_section x ++ of_processor x.mapping q)
      (λ a. a.place ≡ first_place x (nat q))
      (λ a. Zeros (a.place ∷ []))
  pub of-fill : (c : FillCall) → Answers (fill c) (λ a. a.refusal) (of_fill c) (λ a. ByTheRule c a.filled) (λ a. NotFilled c a.filled)
  -- of bytes: as the fill of their words, and each byte afterwards
  pub of-byte-fill : (c : ByteFill)
      → Answers (outcome_of c) (λ a. a.refusal) (of_fill (in_words c))
      (λ a. ByTheRule (in_words c) a.filled × (bytes_after c ≡ store_entries c.bytes 0 (take a.filled.entries a.filled.list)))
      (λ a. NotFilled (in_words c) a.filled × (bytes_after c ≡ c.bytes))
  pub of-transfers : (c : TransferCall) → Answers (transfers c) (λ a. a.refusal) (of_transfer c) (Listed c) (NotListed c)
  pub of-save : (c : CopyCall)
      → Answers (copying c) (λ a. a.refusal) (of_copy c) (WordsCopied (place_of c.mapping) in_order c (saved c)) (NoneCopied c (saved c))
  pub of-load : (c : CopyCall)
      → Answers (copying c) (λ a. a.refusal) (of_copy c) (WordsCopied in_order (place_of c.mapping) c (loaded c)) (NoneCopied c (loaded c))
  -- 14 is the one question of a sheet, and its refusal has a place
  pub of-sheet : (s : List ℕ) (e n : ℕ) (w : Sheet) → Reads s e n w → (b : Bool) → Decides s b
      → Answers e (λ a. a) (ask 14 b ∷ []) (λ a. IsPrint w s × (n ≡ 0)) (λ a. Place IsPrint s n × (w ≡ no_sheet))
