-- The demands of grids as statements: demand 1 of each call, demand 2 of elements, and the kind of section of which demand 3
-- speaks. A grid of rank 1 answers as the calls of rank 1 do.
use Rattle.std.specs.Prelude.{ℕ, ◌/◌, ◌%◌, ◌<◌, ◌≡◌, true, [], ◌∷◌, ℤ, pos, take}
use Rattle.model.specs.Mappings.{Mapping, Section}
use Rattle.model.specs.Ownership.{nat, from_lower, layout_of, owner, rank, held, back_to}
use Rattle.model.specs.Sections.{count, cell}
use Rattle.model.specs.Steps.{steps_of}
use Rattle.model.specs.Filling.{Filled, fill_by}
use Rattle.model.specs.Questions.{is_index}
use Rattle.model.specs.Axes.{paired, first_on, walk_on}
use Rattle.model.specs.declared.three.Three.{Three}
use Rattle.model.specs.Grids.{Grid, GridSection, mappings_of, sections_of, mappings_in, grid_array, grid_axis, number_of, indices_of, indices_at, of_grid_section}
use Rattle.model.specs.Calls.{ownership, going_back, SectionStepsAnswer, steps_report, section_steps, first_place_at}
use Rattle.model.specs.ByteFills.{ByteFill, in_words, store_entries, bytes_after, outcome_of}
use Rattle.model.specs.GridCalls.{indices_in, of_grid_ownership, grid_ownership, zeros, of_grid_back, grid_going_back, GridStepsAnswer, no_steps, grid_steps}
use Rattle.model.specs.GridCalls.{of_grid_place, grid_first_place, GridFill, of_grid_fill, grid_fill, GridByteFill, grid_bytes_after, grid_outcome_of}
use Rattle.model.specs.Demand1.{Answers, Zeros}
use Rattle.model.specs.Demand2.{Element, Addressed, Fortran95}
use Rattle.model.specs.Demand3.{Kind, Form, apart, IsStep}

-- ---- demand 1

abbrev pub GridByTheRule : GridFill → Filled → Type 0
GridByTheRule c f = f ≡ fill_by (walk_on (grid_axis (sections_of c.section))) (nat c.place) (nat c.quota) c.list

abbrev pub GridNotFilled : GridFill → Filled → Type 0
GridNotFilled c f = Zeros (f.entries ∷ f.tries ∷ f.place ∷ []) × (f.list ≡ c.list)

abbrev pub EachStepped : Three Section → GridStepsAnswer → Type 0
EachStepped s a =
    (a.count ≡ (grid_axis s).count) × (a.dimensions.first ≡ steps_report (count s.first) (steps_of s.first))
    × (a.dimensions.second ≡ steps_report (count s.second) (steps_of s.second))
    × (a.dimensions.third ≡ steps_report (count s.third) (steps_of s.third))

abbrev pub NoneStepped : GridStepsAnswer → Type 0
NoneStepped a =
    (a.count ≡ 0) × (a.dimensions.first ≡ no_steps) × (a.dimensions.second ≡ no_steps) × (a.dimensions.third ≡ no_steps)

pub record GridDemand1 : Type 0 where
  pub of-ownership : (g : Grid) (j : Three ℤ)
      → Answers (grid_ownership g j) (λ a. a.refusal) (of_grid_ownership g j)
      (λ a.
      (a.processor ≡ (grid_array (mappings_of g)).owner (number_of (mappings_of g) (indices_in g j)))
      × (a.address ≡ rank (grid_array (mappings_of g)).owner (number_of (mappings_of g) (indices_in g j))))
      (λ a. Zeros (a.processor ∷ a.address ∷ []))
  pub of-going-back : (g : Grid) (q x : ℤ)
      → Answers (grid_going_back g q x) (λ a. a.refusal) (of_grid_back g q x)
      (λ a.
      a.indices
      ≡ indices_of (mappings_of g) (back_to (grid_array (mappings_of g)).owner (grid_array (mappings_of g)).size (nat q) (nat x)))
      (λ a. a.indices ≡ zeros)
  pub of-section-steps : (x : GridSection)
      → Answers (grid_steps x) (λ a. a.refusal) (of_grid_section x) (EachStepped (sections_of x)) NoneStepped
  pub of-first-place : (x : GridSection) (q : ℤ)
      → Answers (grid_first_place x q) (λ a. a.refusal) (of_grid_place x q)
      (λ a. a.place ≡ first_on (grid_axis (sections_of x)) (nat q))
      (λ a. Zeros (a.place ∷ []))
  pub of-fill : (c : GridFill)
      → Answers (grid_fill c) (λ a. a.refusal) (of_grid_fill c) (λ a. GridByTheRule c a.filled) (λ a. GridNotFilled c a.filled)
  -- of bytes: as the fill of their words, and each byte afterwards
  pub of-byte-fill : (c : GridByteFill)
      → Answers (grid_outcome_of c) (λ a. a.refusal) (of_grid_fill (in_words c))
      (λ a.
      GridByTheRule (in_words c) a.filled
      × (grid_bytes_after c ≡ store_entries c.bytes 0 (take a.filled.entries a.filled.list)))
      (λ a. GridNotFilled (in_words c) a.filled × (grid_bytes_after c ≡ c.bytes))

-- ---- demand 2

-- are these declared indices of the array?
abbrev pub AreIndices : Three Mapping → Three ℤ → Type 0
AreIndices m j =
    (is_index m.first j.first ≡ true) × (is_index m.second j.second ≡ true) × (is_index m.third j.third ≡ true)

-- of one dimension: the address of the element of declared index j, and how many elements its owner has
abbrev pub rank_in : Mapping → ℤ → ℕ
rank_in m j = rank (owner m) (from_lower m j)

abbrev pub held_with : Mapping → ℤ → ℕ
held_with m j = held (owner m) (layout_of m).size (owner m (from_lower m j))

-- the element of declared indices j
pub record GridElement (m : Three Mapping) (j : Three ℤ) : Type 0 where
  -- in each dimension as HPF 2.0 has it
  pub first : Element m.first j.first
  pub second : Element m.second j.second
  pub third : Element m.third j.third
  -- of the elements in storage order it is one
  pub number : number_of m j < (grid_array m).size
  pub back : indices_of m (number_of m j) ≡ j
  -- "owned by the processor whose coordinates own its indices", "numbered first dimension fastest"
  pub owner :
      (grid_array m).owner (number_of m j)
      ≡ paired (layout_of m.first).processors (owner m.first (from_lower m.first j.first))
      (paired (layout_of m.second).processors (owner m.second (from_lower m.second j.second))
      (owner m.third (from_lower m.third j.third)))
  -- "Local storage is Fortran's, first dimension fastest, over the local counts": address 1 + count 1 · (address 2 + count 2 ·
  -- address 3)
  pub address :
      rank (grid_array m).owner (number_of m j)
      ≡ paired (held_with m.first j.first) (rank_in m.first j.first)
      (paired (held_with m.second j.second) (rank_in m.second j.second) (rank_in m.third j.third))

-- Demand 2, of the mappings of a grid that passes its questions
pub record GridDemand2 (m : Three Mapping) : Type 0 where
  pub element : (j : Three ℤ) → AreIndices m j → GridElement m j
  pub each-declared : (i : ℕ) → i < (grid_array m).size → AreIndices m (indices_of m i) × (number_of m (indices_of m i) ≡ i)
  pub addresses : Addressed (grid_array m).owner (grid_array m).processors (grid_array m).size

-- and of an accepted section of a grid: that of its array, and the elements of each dimension's triplet
pub record GridSectionDemand2 (x : GridSection) : Type 0 where
  pub array : GridDemand2 (mappings_in (sections_of x))
  pub first : Fortran95 (sections_of x).first.triplet
  pub second : Fortran95 (sections_of x).second.triplet
  pub third : Fortran95 (sections_of x).third.triplet

-- ---- demand 3

-- sections of a grid; "the steps between neighbours are those within a row"
abbrev pub grids : Kind
grids = record {
  Of = GridSection;
  questions = λ x. of_grid_section x;
  fill_questions = λ c. of_grid_fill c;
  axis = λ x. grid_axis (sections_of x);
  Element = Three ℤ;
  numbered = λ x i. indices_of (mappings_in (sections_of x)) i;
  placed = λ x t. indices_at (sections_of x) t;
  Neighbours = λ x t u.
      let s : Section = (sections_of x).first in
      t / count s ≡ u / count s → IsStep (steps_of s) (apart (cell s (t % count s)) (cell s (u % count s)));
}

abbrev pub in_grid_word_lists : Form
in_grid_word_lists = record { kind = grids; Call = GridFill; words = λ c. c; outcome = grid_fill }

abbrev pub in_grid_byte_lists : Form
in_grid_byte_lists = record { kind = grids; Call = GridByteFill; words = in_words; outcome = grid_outcome_of }

-- ---- rank 1

-- the fill of the first dimension alone
abbrev pub first_alone : GridByteFill → ByteFill
first_alone c = record { section = c.section.dimensions.first; processor = c.processor; place = c.place; quota = c.quota; bytes = c.bytes }

-- the steps without their refusal
abbrev pub reported : SectionStepsAnswer → SectionStepsAnswer
reported a = record { refusal = 0; count = a.count; steps = a.steps; first = a.first; second = a.second }

-- "a grid of rank 1 answers as the rank-1 calls do, in every field"
pub record AsRankOne : Type 0 where
  pub of-ownership : (g : Grid) → g.rank ≡ pos 1 → (j : Three ℤ) → grid_ownership g j ≡ ownership g.dimensions.first j.first
  pub of-going-back : (g : Grid) → g.rank ≡ pos 1 → (q x : ℤ)
      → grid_going_back g q x
      ≡ record {
        refusal = (going_back g.dimensions.first q x).refusal;
        indices = record { first = (going_back g.dimensions.first q x).index; second = pos 0; third = pos 0 };
      }
  pub of-section-steps : (x : GridSection) → x.rank ≡ pos 1
      → let a : SectionStepsAnswer = section_steps x.dimensions.first in
      ((grid_steps x).refusal ≡ a.refusal) × ((grid_steps x).count ≡ a.count) × ((grid_steps x).dimensions.first ≡ reported a)
  pub of-first-place : (x : GridSection) → x.rank ≡ pos 1 → (q : ℤ) → grid_first_place x q ≡ first_place_at x.dimensions.first q
  pub of-byte-fill : (c : GridByteFill) → c.section.rank ≡ pos 1
      → (grid_outcome_of c ≡ outcome_of (first_alone c)) × (grid_bytes_after c ≡ bytes_after (first_alone c))
