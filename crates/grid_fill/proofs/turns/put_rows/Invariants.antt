-- `put_rows` meets its contract.
use mathlib.Core.Path.{◌≡◌}
use Rattle.grid_fill.specs.Turns.{base_at, put_rows}
use Rattle.grid_fill.proofs.turns.put_rows.Given as goal

abbrev pub invariant-loop-j : goal.invariant-loop-j
invariant-loop-j l = l.list ≡ put_rows (base_at l.elements l.rows l.plane.0 l.addresses) l.w l.initial.list l.n l.j
