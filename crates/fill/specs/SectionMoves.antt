-- The walk of a section of a cyclic template, and its moves, by its steps. Definitions only.
use Rattle.std.specs.Prelude.{ℕ, ◌+◌, ◌-◌, ◌*◌, ◌/◌, ◌%◌, ◌<◌, ◌≡◌, Bool, true, false, nat_abs}
use Rattle.model.specs.Mappings.{Section}
use Rattle.model.specs.declared.Step.{Step}
use Rattle.model.specs.declared.Steps.{Steps}
use Rattle.model.specs.declared.Steps.TheVariants.{NoStep, OneStep, TwoSteps}
use Rattle.model.specs.Ownership.{column_of, owner_of, owns, rank}
use Rattle.model.specs.Sections.{layout, count, index, cell}
use Rattle.model.specs.Steps.{spread, upward, cyclic_steps, cyclic_going, cyclic_next}
use Rattle.model.specs.Filling.{Walk}
use Rattle.walk.specs.declared.moves.Moves.{Moves}
use Rattle.walk.specs.declared.moves.State.{State}
use Rattle.walk.specs.declared.learning.Elements.{Elements}

-- does processor q own the element at position t, and what is its address?
abbrev pub cyclic_owns : Section → ℕ → ℕ → Bool
cyclic_owns x q t = owns (owner_of (layout x)) q (index x t)

abbrev pub cyclic_address : Section → ℕ → ℕ
cyclic_address x t = rank (owner_of (layout x)) (index x t)

-- the walk, where the template is cyclic
unfoldable pub block_walk : Section → Walk
block_walk x = record { address = cyclic_address x; cost = λ t. (cyclic_going x t).tries; next = cyclic_next x; count = count x; least = 3 }

-- a column of k, counted in walking direction
abbrev pub on_way : Bool → ℕ → ℕ → ℕ
on_way true k q = q
on_way false k q = k - 1 - q

-- the column of the element at position t, counted so
unfoldable pub column_at : Section → ℕ → ℕ
column_at x t = on_way (upward x) (layout x).block (column_of (layout x) (cell x t))

-- a state stands at its place, if that is a position of the section: processor q owns it, and the state has its column and its
-- address
pub record StandsAt (x : Section) (q : ℕ) (s : State) : Type 0 where
  pub mine : s.place.0 < count x → cyclic_owns x q s.place.0 ≡ true
  pub column : s.place.0 < count x → s.column ≡ column_at x s.place.0
  pub address : s.place.0 < count x → s.address.0 ≡ cyclic_address x s.place.0

-- what is added to an address modulo 2^32 to go d on, in walking direction
abbrev pub onward : Bool → ℕ → ℕ
onward true d = d % 4294967296
onward false d = (4294967296 - d % 4294967296) % 4294967296

-- Blocks of k cells, S cells between two elements of the section, and what is added along each step. One step always fits,
-- since it moves no column; without a step a single position is gone on, which leads to the count.
unfoldable pub moves_by : ℕ → ℕ → Steps → ℕ → ℕ → ℕ → Moves
moves_by k S NoStep near far both =
    record { block = k; up = 0; down = 0; first = 1; second = 0; near = near; far = far; both = both }
moves_by k S (OneStep a) near far both =
    record { block = k; up = 0; down = 0; first = a.cells / S; second = 0; near = near; far = far; both = both }
moves_by k S (TwoSteps r w) near far both =
    record { block = k; up = r.column; down = w.column; first = r.cells / S; second = w.cells / S; near = near; far = far; both = both }

abbrev pub moves_of : Section → ℕ → ℕ → ℕ → Moves
moves_of x near far both = moves_by (layout x).block (spread x) (cyclic_steps x) near far both

-- the elements at the section's positions
abbrev pub elements_of : Section → Elements
elements_of x = record { layout = layout x; first = record { 0 = index x 0 }; stride = nat_abs x.triplet.stride; upward = upward x }

-- with stride 1 the address moves by k for each course, and by the columns
abbrev pub line_near : ℕ → Step → ℕ
line_near k r = r.courses * k + r.column

abbrev pub line_far : ℕ → Step → ℕ
line_far k w = w.courses * k - w.column

abbrev pub line_moves : Bool → ℕ → ℕ → Step → Step → Moves
line_moves up k S r w =
    moves_by k S (TwoSteps r w) (onward up (line_near k r)) (onward up (line_far k w)) (onward up (line_near k r + line_far k w))
