-- Columns from which one step is taken, and a move entered at whole periods. Definitions only.
use Rattle.std.specs.Prelude.{ℕ, ◌%◌, ◌≤◌, ◌<◌, ◌≡◌, List, length}
use Rattle.walk.specs.declared.moves.Moves.{Moves}
use Rattle.walk.specs.declared.spread.Span.{Span}
use Rattle.walk.specs.Moving.{move_from}
use Rattle.walk.specs.Learning.{OldOrNew}

-- columns of the block, q among them, from which the same step is taken
pub record OneStep (m : Moves) (q : ℕ) (r : Span) : Type 0 where
  pub from : r.from ≤ q
  pub before : q < r.end
  pub inside : r.end ≤ m.block
  pub alike : (x : ℕ) → r.from ≤ x → x < r.end → (move_from m x).tries ≡ (move_from m q).tries

-- a move entered for columns that lie whole periods after the first, before the end, alone
pub record EnteredFrom (first end period add : ℕ) (columns columns' : List ℕ) : Type 0 where
  pub same : length columns' ≡ length columns
  pub each : OldOrNew (λ x. (first ≤ x) × (x < end) × (x % period ≡ first % period)) add columns columns'
