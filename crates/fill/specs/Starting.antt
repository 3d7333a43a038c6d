-- Where a fill of an accepted section starts, and by which moves it goes. Definitions only.
use Rattle.std.specs.Prelude.{ℕ, ◌<◌, ◌≡◌, true, List}
use Rattle.numbers.specs.Words.{words_of}
use Rattle.model.specs.Filling.{fill_by}
use Rattle.model.specs.Mappings.{Section}
use Rattle.model.specs.Sections.{layout}
use Rattle.model.specs.Questions.{first_no, of_section}
use Rattle.section.specs.declared.questions.Strided.{Strided}
use Rattle.section.specs.Strides.{strided_of, owned_at}
use Rattle.walk.specs.declared.moves.Moves.{Moves}
use Rattle.walk.specs.declared.moves.State.{State}
use Rattle.walk.specs.declared.learning.Elements.{Elements}
use Rattle.walk.specs.declared.learning.Task.{Task}
use Rattle.fill.specs.declared.ready.Start.{Start}
use Rattle.fill.specs.declared.plan.Plan.{Plan}
use Rattle.fill.specs.declared.plan.Plan.TheVariants.{Constant, Learnt}
use Rattle.walk.specs.Moving.{Small, Still}
use Rattle.walk.specs.declared.moves.Report.{Report}
use Rattle.walk.specs.Driving.{Paces, Drives, Stands, ByteFilled}
use Rattle.fill.specs.SectionMoves.{block_walk, cyclic_owns, column_at, StandsAt, elements_of}
use Rattle.walk.specs.Learning.{Even}
use Rattle.fill.specs.Ready.{Started}

-- w is an accepted section, on natural numbers
pub record Taken (w : Strided) : Type 0 where
  pub source : Section
  pub accepted : first_no (of_section source) ≡ 0
  pub same : w ≡ strided_of source

-- the paces are those of processor q: the columns and the owner of its positions
pub record PacesOf (x : Section) (q : ℕ) (m : Moves) (p : Paces (block_walk x) m) : Type 0 where
  pub column : (t : ℕ) → p.column t ≡ column_at x t
  pub mine : (t : ℕ) → p.mine t ≡ cyclic_owns x q t

-- the moves drive the section's walk, in which a state at a place of processor q stands
pub record Driven (x : Section) (q : ℕ) (m : Moves) : Type 0 where
  pub drives : Drives (block_walk x) m
  pub own : PacesOf x q m drives.paces
  pub stands : (s : State) → StandsAt x q s → Stands (block_walk x) m drives.paces s

-- moves along the section's walk can be learnt, and a state at a place of processor q stands in it
pub record Evened (x : Section) (q : ℕ) (m : Moves) : Type 0 where
  pub even : Even (block_walk x) m (elements_of x)
  pub own : PacesOf x q m even.paces
  pub stands : (s : State) → StandsAt x q s → Stands (block_walk x) m even.paces s

-- the plan's moves are within the limits, and go along the section's walk
abbrev pub PlannedFor : Section → ℕ → Plan → Type 0
PlannedFor x q (Constant m) = Small m × (m.block ≡ (layout x).block) × Driven x q m
PlannedFor x q (Learnt m) = Small m × (m.block ≡ (layout x).block) × Evened x q m × Still m

abbrev pub Planned : Strided → ℕ → Plan → Type 0
Planned w q p = (x : Section) → first_no (of_section x) ≡ 0 → w ≡ strided_of x → PlannedFor x q p

-- ---- a fill that passed its questions

-- it is one of an accepted section, and the processor owns its place where the template is cyclic
pub record InBlocks (s : Start) : Type 0 where
  pub started : Started s
  pub taken : Taken s.section
  pub mine : s.place.0 < s.section.count → owned_at s.section s.processor s.place.0 ≡ true

-- whatever accepted section it was, the bytes are those after the fill along its walk in blocks
abbrev pub FillsBlocks : Start → List ℕ → List ℕ → Report → Type 0
FillsBlocks s bs bs' r =
    (x : Section) → first_no (of_section x) ≡ 0 → s.section ≡ strided_of x
    → ByteFilled (fill_by (block_walk x) s.place.0 s.quota (words_of 4 bs)) bs bs' r

-- the elements at the section's positions
abbrev pub elements_in : Strided → Elements
elements_in w = record { layout = w.layout; first = w.first; stride = w.stride; upward = w.upward }

-- the fill along them, by moves that are learnt
abbrev pub task_in : Start → Moves → Task
task_in s m = record { elements = elements_in s.section; moves = m; count = s.section.count; quota = s.quota }

-- the state from which it starts
pub record StateOf (s : Start) (r : State) : Type 0 where
  pub place : r.place.0 ≡ s.place.0
  pub paid : r.paid ≡ 0
  pub column : r.column < s.section.layout.block
  pub address : r.address.0 < 4294967296
  pub stands : (x : Section) → first_no (of_section x) ≡ 0 → s.section ≡ strided_of x → StandsAt x s.processor r
