-- `fill_turns` meets its contract: each turn goes on where the one before it ended.
use Prim.Native.Nat.{◌-◌, ◌/◌, ◌≤◌}
use mathlib.Core.Path.{◌≡◌}
use lib.ListN.{length}
use Rattle.model.specs.Grids.{GridSection}
use Rattle.grid_fill.specs.Rows.{PlanOf, Standing}
use Rattle.grid_fill.proofs.FillingLaws.{Filling}
use Rattle.grid_fill.proofs.filling.fill_turns.Given as goal

abbrev pub invariant-loop-n : goal.invariant-loop-n
invariant-loop-n l =
    (l.n ≤ length l.initial.list / 4) × (length l.list ≡ length l.initial.list) × (l.paid ≤ l.quota)
    × ((x : GridSection) → PlanOf l.p x → Standing x l.p l.initial.at → Filling x l.p l.initial.at l.quota l.initial.list l.list l.at l.whole l.paid l.n)

abbrev pub decreases-loop-n : goal.decreases-loop-n
decreases-loop-n l = length l.initial.list / 4 - l.n
