-- What is proved of the definitions, in one place: each theorem of docs/PROMISES.md that is about them alone, by its type.
-- Statements only.
use Rattle.std.specs.Prelude.{ℕ, ◌+◌, ◌*◌, ◌/◌, ◌%◌, ◌≤◌, ◌<◌, ◌≡◌, true, T, ℤ, pos, drop}
use Rattle.model.specs.Mappings.{cyclic, Mapping, Section}
use Rattle.model.specs.declared.Triplet.{Triplet}
use Rattle.model.specs.declared.Steps.{Steps}
use Rattle.model.specs.declared.Steps.TheVariants.{NoStep, OneStep, TwoSteps}
use Rattle.model.specs.Ownership.{nat, cell_under, course_cells, owner, rank}
use Rattle.model.specs.Sections.{layout, count}
use Rattle.model.specs.Steps.{spread, steps_of}
use Rattle.model.specs.Smallest.{SmallestSteps}
use Rattle.model.specs.Periods.{Repeating}
use Rattle.model.specs.Questions.{first_no, Passes, in_range, of_section}
use Rattle.model.specs.Cases.{ByCases}
use Rattle.model.specs.CasesByHand.{CasesByHand}
use Rattle.model.specs.declared.three.Three.{Three}
use Rattle.model.specs.Grids.{Grid, GridSection, mappings_of, of_grid, of_grid_section}
use Rattle.model.specs.Calls.{ownership, going_back}
use Rattle.model.specs.ByteFills.{ByteFill, bytes_after, outcome_of}
use Rattle.model.specs.GridCalls.{indices_in, grid_ownership, grid_going_back, GridByteFill, grid_bytes_after, grid_outcome_of}
use Rattle.model.specs.Transfers.{Assigned}
use Rattle.model.specs.Checkpoints.{Checkpoints}
use Rattle.model.specs.Demand1.{Demand1}
use Rattle.model.specs.Demand2.{Fortran95, Demand2}
use Rattle.model.specs.Demand3.{in_word_lists, in_byte_lists, Demand3}
use Rattle.model.specs.GridDemands.{GridDemand1, GridDemand2, GridSectionDemand2, in_grid_word_lists, in_grid_byte_lists, AsRankOne}
use Rattle.model.specs.Document01.{AsDocument01}
use Rattle.model.specs.Shifted.{Shifted}
use Rattle.model.specs.Starred.{every, table}
use Rattle.model.specs.GenBlockRows.{gen_block_rows}
use Rattle.model.specs.GridRows.{every_row, grid_rows}
use Rattle.model.specs.GridRefusals.{every_refusal, grid_refusals, section_refusals}

-- "a section is accepted if every question that concerns its mapping and itself is answered yes"
abbrev pub Accepts : Section → Type 0
Accepts x = first_no (of_section x) ≡ 0

abbrev pub PassesGrid : Grid → Type 0
PassesGrid g = first_no (of_grid g) ≡ 0

abbrev pub AcceptsGrid : GridSection → Type 0
AcceptsGrid x = first_no (of_grid_section x) ≡ 0

-- "courses of return × column move of r + courses of r × y of return = S"; and from no column do both steps fit
abbrev pub Balanced : ℕ → ℕ → Steps → Type 0
Balanced k S NoStep = Unit {0}
Balanced k S (OneStep m) = Unit {0}
Balanced k S (TwoSteps r w) =
    (w.courses * r.column + r.courses * w.column ≡ S) × ((q : ℕ) → q + r.column < k → w.column ≤ q → ⊥)

pub record Promises : Type 0 where
  -- demand 1, of every call
  pub answers : Demand1
  -- demand 2: of a mapping, of a triplet, and of a section of both; and the calls of it undo each other
  pub owners : (m : Mapping) → Passes m → Demand2 m
  pub elements : (x : Triplet) → in_range x ≡ true → Fortran95 x
  pub sections : (x : Section) → Accepts x → Demand2 x.mapping × Fortran95 x.triplet
  pub there_and_back :
      (m : Mapping) (j : ℤ) → (ownership m j).refusal ≡ 0
      → going_back m (pos (ownership m j).processor) (pos (ownership m j).address) ≡ record { refusal = 0; index = j }
  pub back-and-there :
      (m : Mapping) (q x : ℤ) → (going_back m q x).refusal ≡ 0
      → ownership m (going_back m q x).index ≡ record { refusal = 0; processor = nat q; address = nat x }
  -- "With a = 1, b = 0 this is k·(i div pk) + i mod k", the local address on a cyclic template; of declared bounds, with the first
  -- element on the first cell
  pub direct-addresses : (m : Mapping) → Passes m → (k : ℤ) → m.dealing ≡ cyclic k → m.stride ≡ pos 1
      → cell_under m m.lower ≡ pos 0 → (i : ℕ)
      → rank (owner m) i ≡ nat k * (i / (nat m.processors * nat k)) + i % nat k
  -- declared bounds shift indices, and nothing else; without them every answer is document 01's
  pub bounds : Shifted
  pub without-bounds : AsDocument01
  -- the count by the cases of the Fortran text, of every triplet that passes question 6; and cases found by hand
  pub cases : (x : Triplet) → in_range x ≡ true → ByCases x
  pub cases-by-hand : CasesByHand
  -- the two steps of a section
  pub steps : (x : Section) → Accepts x → Balanced (layout x).block (spread x) (steps_of x)
  -- on a cyclic template each is "the smallest positive multiple of S" of its form
  pub smallest-steps : (x : Section) → Accepts x → (k : ℤ) → x.mapping.dealing ≡ cyclic k
      → SmallestSteps (count x) (course_cells (layout x)) (layout x).block (spread x) (steps_of x)
  -- the walk of a processor through a section of a cyclic template repeats
  pub repeats : (x : Section) → Accepts x → (k : ℤ) → x.mapping.dealing ≡ cyclic k → (q : ℕ) → Repeating x q
  -- demand 3, of fills into words and into bytes
  pub word-fills : (x : Section) → Accepts x → Demand3 in_word_lists x
  pub byte-fills : (x : Section) → Accepts x → Demand3 in_byte_lists x
  -- "up to 3 bytes left over are no entry and stay", and so do the bytes after the entries written
  pub bytes-stay :
      (c : ByteFill) (m : ℕ) → 4 * (outcome_of c).filled.entries ≤ m → drop m (bytes_after c) ≡ drop m c.bytes
  -- all pairs of an assignment of sections with equal counts, as question 12 asks
  pub assignment : (left right : Section) → Accepts left → Accepts right → count left ≡ count right → Assigned left right
  -- save and load
  pub checkpoints : Checkpoints
  -- grids: demand 1; demand 2, of a grid and of a section of one, and the calls of it undo each other up to the rank; demand 3;
  -- and the bytes that stay
  pub grid-answers : GridDemand1
  pub grid-owners : (g : Grid) → PassesGrid g → GridDemand2 (mappings_of g)
  pub grid-sections : (x : GridSection) → AcceptsGrid x → GridSectionDemand2 x
  pub grid-there-and-back :
      (g : Grid) (j : Three ℤ) → (grid_ownership g j).refusal ≡ 0
      → grid_going_back g (pos (grid_ownership g j).processor) (pos (grid_ownership g j).address)
      ≡ record { refusal = 0; indices = indices_in g j }
  pub grid-back-and-there :
      (g : Grid) (q x : ℤ) → (grid_going_back g q x).refusal ≡ 0
      → grid_ownership g (grid_going_back g q x).indices ≡ record { refusal = 0; processor = nat q; address = nat x }
  -- of a grid no call fills words: these are the fills that its fills of bytes stand for, and whose numbers they report
  pub grid-word-fills : (x : GridSection) → AcceptsGrid x → Demand3 in_grid_word_lists x
  pub grid-byte-fills : (x : GridSection) → AcceptsGrid x → Demand3 in_grid_byte_lists x
  pub grid-bytes-stay :
      (c : GridByteFill) (m : ℕ) → 4 * (grid_outcome_of c).filled.entries ≤ m → drop m (grid_bytes_after c) ≡ drop m c.bytes
  -- one of rank 1 answers as the calls of rank 1 do
  pub rank-one : AsRankOne
  -- the starred cases, and those of our own for GEN_BLOCK and for grids
  pub starred : T (every table)
  pub gen-block : T (every gen_block_rows)
  pub grid-rows : T (every_row grid_rows)
  pub grid-refusals : T (every_refusal grid_refusals)
  pub section-refusals : T (every_refusal section_refusals)
