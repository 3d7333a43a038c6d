-- Many turns at once, for which the tries are there, and of which none but the last reaches the count. Definitions only.
use Rattle.std.specs.Prelude.{ℕ, zero, suc, ◌+◌, ◌-◌, ◌*◌, ◌≤◌, ◌<◌, ◌≡◌, List}
use Rattle.walk.specs.declared.moves.Moves.{Moves}
use Rattle.walk.specs.declared.moves.State.{State}
use Rattle.walk.specs.declared.moves.Made.{Made}
use Rattle.walk.specs.Moving.{stepped_by, Small, Sound}

-- the state after n steps that add δ of the column
unfoldable pub steps_on : Moves → (ℕ → ℕ) → ℕ → State → State
steps_on m δ zero s = s
steps_on m δ (suc n) s = stepped_by m δ (steps_on m δ n s)

-- the list after n turns, each of which puts its address at the next entry, from entry `from` on
unfoldable pub burst_by : (List ℕ → ℕ → ℕ → List ℕ) → Moves → (ℕ → ℕ) → List ℕ → ℕ → ℕ → State → List ℕ
burst_by put m δ l from zero s = l
burst_by put m δ l from (suc n) s = put (burst_by put m δ l from n s) (from + n) (steps_on m δ n s).address.0

-- so many turns from state s write
pub record Sure (m : Moves) (δ : ℕ → ℕ) (count quota : ℕ) (s : State) (turns : ℕ) : Type 0 where
  pub places : (i : ℕ) → i < turns → (steps_on m δ i s).place.0 < count
  pub tries : s.paid + 3 * turns ≤ quota

-- so many turns are sure to write, whichever step each takes
abbrev pub Short : Moves → ℕ → State → ℕ → Type 0
Short m count s turns = s.place.0 + (turns - 1) * (m.first + m.second) < count

-- what a burst asks
pub record Bursts (m : Moves) (count : ℕ) (s : State) (turns : ℕ) : Type 0 where
  pub small : Small m
  pub sound : Sound m s
  pub few : count < 2147483648
  pub place : s.place.0 < count
  pub some : 0 < turns
  pub tries : s.paid + 3 * turns < 2147483648

-- What a burst of at most so many turns, each of them from a state as P says, made of the list l, from entry `from` on.
pub record Bursted (put : List ℕ → ℕ → ℕ → List ℕ) (m : Moves) (δ : ℕ → ℕ) (P : State → Type 0) (s : State) (from turns : ℕ) (l l' : List ℕ) (r : Made) : Type 0 where
  pub some : 0 < r.turns
  pub low : r.turns ≤ turns
  pub each : (i : ℕ) → i < r.turns → P (steps_on m δ i s)
  pub state : r.state ≡ steps_on m δ r.turns s
  pub list : l' ≡ burst_by put m δ l from r.turns s

-- the count is not reached
abbrev pub Before : ℕ → State → Type 0
Before count s = s.place.0 < count

-- a state from which a fill starts
pub record Starts (m : Moves) (count quota : ℕ) (s : State) : Type 0 where
  pub small : Small m
  pub sound : Sound m s
  pub few : count < 2147483648
  pub low : quota < 2147483648
  pub place : s.place.0 ≤ count
  pub paid : s.paid ≡ 0
