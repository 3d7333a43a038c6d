-- Fills of long lists, whose first period is filled and then copied. Definitions only.
use Rattle.std.specs.Prelude.{ℕ, ◌+◌, ◌-◌, ◌*◌, ◌/◌, ◌≤◌, ◌<◌, ◌≡◌, List, length}
use Rattle.model.specs.Ownership.{column_of}
use Rattle.section.specs.declared.questions.Strided.{Strided}
use Rattle.section.specs.Strides.{cell_at}
use Rattle.walk.specs.declared.moves.Moves.{Moves}
use Rattle.walk.specs.declared.moves.State.{State}
use Rattle.walk.specs.declared.moves.Made.{Made}
use Rattle.walk.specs.declared.moves.Report.{Report}
use Rattle.walk.specs.Moving.{at_most, Small}
use Rattle.walk.specs.Repeating.{StepsUntil}
use Rattle.walk.specs.Copying.{Extends}
use Rattle.fill.specs.declared.ready.Start.{Start}
use Rattle.fill.specs.declared.plan.Plan.{Plan}
use Rattle.fill.specs.declared.plan.Plan.TheVariants.{Constant, Learnt}
use Rattle.fill.specs.declared.long.Period.{Period}
use Rattle.fill.specs.SectionMoves.{on_way}
use Rattle.fill.specs.Starting.{InBlocks, Planned}

-- the moves of a plan
abbrev pub moves_in : Plan → Moves
moves_in (Constant m) = m
moves_in (Learnt m) = m

-- the column of the element at position t, counted in walking direction
abbrev pub column_in : Strided → ℕ → ℕ
column_in w t = on_way w.upward w.layout.block (column_of w.layout (cell_at w t))

-- a fill from a place before the count, and its column
pub record Begun (s : Start) (plan : Plan) (c : ℕ) : Type 0 where
  pub blocks : InBlocks s
  pub planned : Planned s.section s.processor plan
  pub below : s.place.0 < s.section.count
  pub column : c ≡ column_in s.section s.place.0

-- What a fill r of the first e entries came to is their period: the column is the first again, at a later place, with 3 tries
-- left. That it is not found so is left open: then the list is filled as a short one is.
pub record Returned (s : Start) (c e : ℕ) (r : Report) : Type 0 where
  pub entries : r.entries ≡ e
  pub later : s.place.0 < r.place.0
  pub some : 0 < r.tries
  pub tries : r.tries + 3 ≤ s.quota
  pub column : column_in s.section r.place.0 ≡ c

-- a period that may be passed at least once, in a list of so many bytes
pub record Passable (s : Start) (m : Moves) (p : Period) (long : ℕ) : Type 0 where
  pub small : Small m
  pub column : p.column < m.block
  pub count_low : s.section.count < 2147483648
  pub quota-low : s.quota < 2147483648
  pub entries : 0 < p.entries
  pub places : 0 < p.places
  pub some : 0 < p.tries
  pub far : s.place.0 + p.places < s.section.count
  pub tries : p.tries + 3 ≤ s.quota
  pub room : p.entries ≤ long / 4
  pub add : p.add < 4294967296

-- So many periods may be passed. How many is left open, but for these bounds: fewer of them cost more steps.
pub record Ahead (s : Start) (p : Period) (room n : ℕ) : Type 0 where
  pub some : 0 < n
  pub places : s.place.0 + n * p.places < s.section.count
  pub tries : n * p.tries + 3 ≤ s.quota
  pub entries : n * p.entries ≤ room

-- where a fill stands after them; its address is not asked for
abbrev pub state_after : Start → Period → ℕ → State
state_after s p n =
    record { column = p.column; address = record { 0 = 0 }; place = record { 0 = s.place.0 + n * p.places }; paid = n * p.tries }

-- so many periods were passed, steps were taken from there on, and the entries are copies of the first period
pub record Passed (s : Start) (m : Moves) (p : Period) (bs bs' : List ℕ) (r : Report) : Type 0 where
  pub whole : ℕ
  pub ahead : Ahead s p (length bs / 4) whole
  pub last : Made
  pub steps : StepsUntil m s.section.count s.quota (state_after s p whole) (length bs / 4 - whole * p.entries) last
  pub entries : r.entries ≡ whole * p.entries + last.turns
  pub tries : r.tries ≡ last.state.paid
  pub place : r.place.0 ≡ at_most s.section.count last.state.place.0
  pub copied : Extends p.entries p.add r.entries bs bs'
