-- Document 01's own answers, in which elements count from 0 and element i sits on cell a·i + b, and the law of A1 about them:
-- of a cyclic template with both bounds 0, b of 0 or more and a up to A6's limit, every answer is document 01's. Definitions, and
-- that statement.
use Rattle.std.specs.Prelude.{ℕ, ◌+◌, ◌-◌, ◌*◌, ◌/◌, ◌≡◌, Bool, true, cond, ◌&&◌, ◌||◌, List, [], ◌∷◌, ◌++◌, ltb, eqb, ℤ, pos, nat_abs, ◌+ℤ◌, ◌-ℤ◌, ◌*ℤ◌, length}
use Rattle.std.specs.Int.Signed.{le_z, lt_z, non_neg}
use Rattle.numbers.specs.Search.{passing, head_or}
use Rattle.model.specs.Mappings.{cyclic, Mapping, Section}
use Rattle.model.specs.declared.Layout.{Layout}
use Rattle.model.specs.declared.Steps.{Steps}
use Rattle.model.specs.declared.Steps.TheVariants.{NoStep, OneStep, TwoSteps}
use Rattle.model.specs.Ownership.{nat, block_in, cell_of, course_cells, column_of, owner_of, owns, rank, held, back_to}
use Rattle.model.specs.Sections.{element_at, count}
use Rattle.model.specs.Steps.{Going, steps_by, go_on, is_past}
use Rattle.model.specs.Filling.{Walk, Outcome, answer}
use Rattle.model.specs.Questions.{Question, ask, first_no, between, is_below, most, most_stride, in_range, of_processor, of_quota}
use Rattle.model.specs.Calls.{OwnershipAnswer, ownership, GoingBackAnswer, going_back, LocalCountAnswer, local_count}
use Rattle.model.specs.Calls.{steps_report, no_report, SectionStepsAnswer, section_steps, PlaceAnswer, first_place_at, FillCall, fill}
use Rattle.model.specs.Transfers.{Lists, TransferCall, TransferAnswer, of_counts, of_room, transfers, with_entries, lists_after}

-- ---- a section, by its layout, the index from 0 at each position, the count and s

pub record Lined : Type 0 where
  pub layout : Layout
  pub index : ℕ → ℕ
  pub count : ℕ
  pub stride : ℤ

abbrev pub cell_in : Lined → ℕ → ℕ
cell_in v t = cell_of v.layout (v.index t)

abbrev pub owns_in : Lined → ℕ → ℕ → Bool
owns_in v q t = owns (owner_of v.layout) q (v.index t)

abbrev pub address_in : Lined → ℕ → ℕ
address_in v t = rank (owner_of v.layout) (v.index t)

abbrev pub first_in : Lined → ℕ → ℕ
first_in v q = head_or v.count (passing (owns_in v q) 0 v.count)

abbrev pub spread_in : Lined → ℕ
spread_in v = v.layout.stride * nat_abs v.stride

abbrev pub steps_in : Lined → Steps
steps_in v = steps_by v.count (course_cells v.layout) v.layout.block (spread_in v)

abbrev pub going_in : Lined → ℕ → Going
going_in v t = go_on (non_neg v.stride) v.layout.block (column_of v.layout (cell_in v t)) (steps_in v)

-- the place n cells on from position t, or the count past the last element
abbrev pub on_in : Lined → ℕ → ℕ → ℕ
on_in v t n = cond (is_past (non_neg v.stride) (cell_in v t) n (cell_in v (v.count - 1))) v.count (t + n / spread_in v)

abbrev pub next_by_steps : Lined → ℕ → ℕ → Steps → ℕ
next_by_steps v t n NoStep = v.count
next_by_steps v t n (OneStep m) = on_in v t n
next_by_steps v t n (TwoSteps r w) = on_in v t n

abbrev pub walk_in : Lined → Walk
walk_in v = record {
  address = address_in v;
  cost = λ t. (going_in v t).tries;
  next = λ t. next_by_steps v t (going_in v t).cells (steps_in v);
  count = v.count;
  least = 3;
}

abbrev pub is_place_in : Lined → ℤ → ℤ → Bool
is_place_in v q t = le_z (pos 0) t && (eqb (nat t) v.count || (ltb (nat t) v.count && owns_in v (nat q) (nat t)))

-- ---- document 01's mapping and section

abbrev pub plain_layout : Mapping → Layout
plain_layout m = record {
  cells = nat m.cells;
  processors = nat m.processors;
  block = nat (block_in m.dealing);
  stride = nat m.stride;
  offset = nat m.offset;
  size = nat m.size;
}

abbrev pub plain_lined : Section → Lined
plain_lined x = record {
  layout = plain_layout x.mapping;
  index = λ t. nat (element_at x.triplet t);
  count = count x;
  stride = x.triplet.stride;
}

-- ---- its questions

-- 5: "is n from 0 to 2,147,483,647 and, if n is at least 1, a·(n − 1) + b below T?"
abbrev pub plain_cells : Mapping → Bool
plain_cells m = lt_z m.size (pos 1) || lt_z (m.stride *ℤ (m.size -ℤ pos 1) +ℤ m.offset) m.cells

abbrev pub plain_mapping : Mapping → List Question
plain_mapping m =
    ask 1 (between (pos 1) most m.cells)
    ∷ ask 2 (between (pos 1) (pos 1024) m.processors)
    ∷ ask 3 (between (pos 1) (pos 65536) (block_in m.dealing))
    ∷ ask 4 (between (pos 1) most m.stride && between (pos 0) most m.offset)
    ∷ ask 5 (between (pos 0) most m.size && plain_cells m)
    ∷ []

-- 7: "if the count is at least 1, are the first and the last element from 0 to n − 1?"
abbrev pub plain_ends : Section → Bool
plain_ends x =
    let inside : ℕ → Bool = λ t. is_below x.mapping.size (element_at x.triplet t) in
    eqb (count x) 0 || (inside 0 && inside (count x - 1))

abbrev pub plain_section : Section → List Question
plain_section x = plain_mapping x.mapping ++ (ask 6 (in_range x.triplet) ∷ ask 7 (plain_ends x) ∷ [])

abbrev pub plain_place : Section → ℤ → ℤ → List Question
plain_place x q t = ask 10 (is_place_in (plain_lined x) q t) ∷ []

-- ---- its answers

abbrev pub plain_ownership : Mapping → ℤ → OwnershipAnswer
plain_ownership m i =
    let e : ℕ = first_no (plain_mapping m ++ ask 9 (is_below m.size i) ∷ []) in
    let o : ℕ → ℕ = owner_of (plain_layout m) in
    cond (eqb e 0) (record { refusal = 0; processor = o (nat i); address = rank o (nat i) })
    (record { refusal = e; processor = 0; address = 0 })

abbrev pub plain_going_back : Mapping → ℤ → ℤ → GoingBackAnswer
plain_going_back m q a =
    let o : ℕ → ℕ = owner_of (plain_layout m) in
    let has : ℕ = held o (nat m.size) (nat q) in
    let e : ℕ = first_no (plain_mapping m ++ of_processor m q ++ ask 9 (is_below (pos has) a) ∷ []) in
    cond (eqb e 0) (record { refusal = 0; index = pos (back_to o (nat m.size) (nat q) (nat a)) })
    (record { refusal = e; index = pos 0 })

abbrev pub plain_local_count : Mapping → ℤ → LocalCountAnswer
plain_local_count m q =
    let e : ℕ = first_no (plain_mapping m ++ of_processor m q) in
    cond (eqb e 0) (record { refusal = 0; elements = held (owner_of (plain_layout m)) (nat m.size) (nat q) })
    (record { refusal = e; elements = 0 })

abbrev pub plain_steps : Section → SectionStepsAnswer
plain_steps x =
    let e : ℕ = first_no (plain_section x) in
    cond (eqb e 0) (steps_report (count x) (steps_in (plain_lined x)))
    (record { refusal = e; count = 0; steps = 0; first = no_report; second = no_report })

abbrev pub plain_first_place : Section → ℤ → PlaceAnswer
plain_first_place x q =
    let e : ℕ = first_no (plain_section x ++ of_processor x.mapping q) in
    cond (eqb e 0) (record { refusal = 0; place = first_in (plain_lined x) (nat q) }) (record { refusal = e; place = 0 })

abbrev pub plain_fill : FillCall → Outcome
plain_fill c =
    let x : Section = c.section in
    let asked : List Question =
    plain_section x ++ of_processor x.mapping c.processor ++ plain_place x c.processor c.place ++ of_quota c.quota in
    answer (walk_in (plain_lined x))
    (record { refusal = first_no asked; place = nat c.place; quota = nat c.quota; list = c.list })

-- the positions of a pair
abbrev pub plain_pairs : Section → Section → ℕ → ℕ → List ℕ
plain_pairs left right q m = passing (λ t. owns_in (plain_lined right) q t && owns_in (plain_lined left) m t) 0 (count left)

abbrev pub plain_places : TransferCall → List ℕ
plain_places c = plain_pairs c.left c.right (nat c.sender) (nat c.receiver)

-- the questions of a pair of n entries
abbrev pub plain_transfer : TransferCall → ℕ → List Question
plain_transfer c n =
    plain_section c.left ++ plain_section c.right ++ of_processor c.right.mapping c.sender
    ++ of_processor c.left.mapping c.receiver ++ of_counts (count c.left) (count c.right) ++ of_room n c.lists

abbrev pub plain_transfers : TransferCall → TransferAnswer
plain_transfers c =
    let n : ℕ = length (plain_places c) in
    let e : ℕ = first_no (plain_transfer c n) in
    cond (eqb e 0) (record { refusal = 0; entries = n; needed = 0 })
    (record { refusal = e; entries = 0; needed = cond (eqb e 13) n 0 })

-- document 01 leaves the order of the entries open, and document 02, A2, has them in rising position
abbrev pub plain_lists_after : TransferCall → Lists
plain_lists_after c =
    let address : Section → ℕ → ℕ = λ x. address_in (plain_lined x) in
    cond (eqb (first_no (plain_transfer c (length (plain_places c)))) 0)
    (with_entries (plain_places c) (address c.right) (address c.left) c.lists) c.lists

-- ---- the law

-- a cyclic template and no bounds, as document 01 has it: its question 4 turns a negative offset away, which A1 lets pass, and
-- lets pass a stride that A6 turns away
pub record Plain (m : Mapping) : Type 0 where
  pub block : ℤ
  pub dealing : m.dealing ≡ cyclic block
  pub lower : m.lower ≡ pos 0
  pub origin : m.origin ≡ pos 0
  pub stride : le_z m.stride (pos most_stride) ≡ true
  pub offset : le_z (pos 0) m.offset ≡ true

-- A fill of bytes is by definition the fill of their words (ByteFills), which knows nothing of bounds.
pub record AsDocument01 : Type 0 where
  pub of-ownership : (m : Mapping) → Plain m → (i : ℤ) → ownership m i ≡ plain_ownership m i
  pub of-going-back : (m : Mapping) → Plain m → (q a : ℤ) → going_back m q a ≡ plain_going_back m q a
  pub of-local-count : (m : Mapping) → Plain m → (q : ℤ) → local_count m q ≡ plain_local_count m q
  pub of-section-steps : (x : Section) → Plain x.mapping → section_steps x ≡ plain_steps x
  pub of-first-place : (x : Section) → Plain x.mapping → (q : ℤ) → first_place_at x q ≡ plain_first_place x q
  pub of-fill : (c : FillCall) → Plain c.section.mapping → fill c ≡ plain_fill c
  pub of-transfers : (c : TransferCall) → Plain c.left.mapping → Plain c.right.mapping
      → (transfers c ≡ plain_transfers c) × (lists_after c ≡ plain_lists_after c)
