-- Moves: the step that is taken from a column, and the state that it leads to. Definitions only.
use Rattle.std.specs.Prelude.{ℕ, ◌+◌, ◌-◌, ◌%◌, ◌≤◌, ◌<◌, ◌≡◌, Bool, true, false, cond, ◌||◌, ltb, eqb}
use Rattle.model.specs.Steps.{fits}
use Rattle.walk.specs.declared.moves.Moves.{Moves}
use Rattle.walk.specs.declared.moves.State.{State}

-- what a step does: the column that it leads to, the positions that it goes on, what is added to the address, and its tries
pub record Move : Type 0 where
  pub column : ℕ
  pub places : ℕ
  pub add : ℕ
  pub tries : ℕ

-- from column q, counted in walking direction: the processor step, if it fits; else the return step; else their sum
unfoldable pub move_from : Moves → ℕ → Move
move_from m q =
    cond (fits true m.block q m.up) (record { column = q + m.up; places = m.first; add = m.near; tries = 1 })
    (cond (fits false m.block q m.down) (record { column = q - m.down; places = m.second; add = m.far; tries = 2 })
    (record { column = q + m.up - m.down; places = m.first + m.second; add = m.both; tries = 3 }))

-- the state after a move that adds d to the address; its place may pass the count
abbrev pub moved_by : Move → ℕ → State → State
moved_by g d s = record {
  column = g.column;
  address = record { 0 = (s.address.0 + d) % 4294967296 };
  place = record { 0 = s.place.0 + g.places };
  paid = s.paid + g.tries;
}

-- where what is added depends on the column
abbrev pub stepped_by : Moves → (ℕ → ℕ) → State → State
stepped_by m δ s = moved_by (move_from m s.column) (δ s.column) s

-- constant moves: what is added depends on the step alone
abbrev pub add_from : Moves → ℕ → ℕ
add_from m q = (move_from m q).add

unfoldable pub stepped : Moves → State → State
stepped m s = moved_by (move_from m s.column) (move_from m s.column).add s

-- a place, or the count where it is passed
abbrev pub at_most : ℕ → ℕ → ℕ
at_most count t = cond (ltb t count) t count

abbrev pub stop_at : ℕ → State → State
stop_at count s = record { column = s.column; address = s.address; place = record { 0 = at_most count s.place.0 }; paid = s.paid }

-- a fill goes on while its place is not the count and at least 3 tries are left
abbrev pub has_ended : ℕ → ℕ → State → Bool
has_ended count quota s = eqb s.place.0 count || ltb (quota - s.paid) 3

-- ---- what keeps sums small

pub record Small (m : Moves) : Type 0 where
  pub block : m.block ≤ 65536
  pub up : m.up < m.block
  pub down : m.down ≤ m.block
  pub some : 0 < m.first
  pub first : m.first < 2147483648
  pub second : m.second < 2147483648
  pub near : m.near < 4294967296
  pub far : m.far < 4294967296
  pub both : m.both < 4294967296

-- a column of the block, and an address of 32 bits
pub record Sound (m : Moves) (s : State) : Type 0 where
  pub column : s.column < m.block
  pub address : s.address.0 < 4294967296

-- places and tries to which a step can be added
pub record Roomy (s : State) : Type 0 where
  pub place : s.place.0 < 4294967296
  pub paid : s.paid < 4294967296

-- moves that leave the address as it is
pub record Still (m : Moves) : Type 0 where
  pub near : m.near ≡ 0
  pub far : m.far ≡ 0
  pub both : m.both ≡ 0
