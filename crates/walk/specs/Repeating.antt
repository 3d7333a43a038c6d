-- Walks that repeat, since the column comes back. Definitions only.
use Rattle.std.specs.Prelude.{ℕ, ◌+◌, ◌-◌, ◌/◌, ◌%◌, ◌≤◌, ◌<◌, ◌≡◌, cond, ◌⊎◌, eqb}
use Rattle.numbers.specs.Gcd.{gcd}
use Rattle.walk.specs.declared.moves.Moves.{Moves}
use Rattle.walk.specs.declared.moves.State.{State}
use Rattle.walk.specs.declared.moves.Made.{Made}
use Rattle.walk.specs.Moving.{add_from}
use Rattle.walk.specs.Bursts.{steps_on}

-- How many columns of the block lie whole divisors of both steps from column q, itself among them. A walk of one step stays in
-- its column.
unfoldable pub period_steps : Moves → ℕ → ℕ
period_steps m q =
    let d : ℕ = gcd m.up m.down in
    cond (eqb m.up 0) 1 ((m.block - 1 - q % d) / d + 1)

-- Steps from state s, at most so many, each from a place before the count and with 3 tries left; and why there are no more.
pub record StepsUntil (m : Moves) (count quota : ℕ) (s : State) (most : ℕ) (r : Made) : Type 0 where
  pub low : r.turns ≤ most
  pub each : (i : ℕ) → i < r.turns → ((steps_on m (add_from m) i s).place.0 < count) × ((steps_on m (add_from m) i s).paid + 3 ≤ quota)
  pub state : r.state ≡ steps_on m (add_from m) r.turns s
  pub paid : r.state.paid ≤ quota
  pub why : (r.turns ≡ most) ⊎ ((count ≤ r.state.place.0) ⊎ (quota - r.state.paid < 3))
