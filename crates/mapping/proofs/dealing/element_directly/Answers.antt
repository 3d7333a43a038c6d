-- `element_directly` meets its contract: the law of going back with stride 1, and no number on the way is above the cell.
-- Assumes nothing.
use Prim.Native.Nat.{◌+◌}
use native.Mathlib.Omega.{arith}
use Rattle.model.specs.Ownership.{cell_owner, owner_of}
use Rattle.model.proofs.HeldLaws.{held-le}
use Rattle.mapping.proofs.CellLaws.{Led, led}
use Rattle.mapping.proofs.dealing.element_directly.Goals as goal
use Rattle.mapping.proofs.dealing.element_directly.Goals.{After-cells_below}

leads : (c : After-cells_below) → Led c.args.l c.args.q c.args.x.0 (c.args.x.0 + c.cells_below.result)
leads c = led c.cells_below.result c.requires.stored c.requires.stride_value c.cells_below.ensures

pub overflow_add-nth : goal.overflow_add-nth
overflow_add-nth c =
    omega (
      arith,
      c.cells_below.ensures,
      held-le (cell_owner c.args.l) c.args.q c.args.l.offset,
      held-le (owner_of c.args.l) c.args.q c.args.l.size,
      c.requires.stored.dealt.sized.offset-high,
    )

pub overflow_mul-cell : goal.overflow_mul-cell
overflow_mul-cell c = omega (arith, leads (goal.at.overflow_mul-cell c).After-cells_below)

pub overflow_add-cell : goal.overflow_add-cell
overflow_add-cell c = omega (arith, leads (goal.at.overflow_add-cell c).After-cells_below)

pub overflow_add-cell-2 : goal.overflow_add-cell-2
overflow_add-cell-2 c = omega (arith, leads (goal.at.overflow_add-cell-2 c).After-cells_below)

pub overflow_sub-result : goal.overflow_sub-result
overflow_sub-result c = (leads (goal.at.overflow_sub-result c).After-cells_below).from

pub returns : goal.returns
returns c = (leads (goal.at.returns c).After-cells_below).element
