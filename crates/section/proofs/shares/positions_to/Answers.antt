-- `positions_to` meets its contract: cells and spreads are small, and a section without elements has no positions.
use Prim.Native.Nat.{◌≤◌, ◌<◌}
use mathlib.Core.Path.{sym}
use native.Mathlib.Omega.{arith}
use Rattle.numbers.proofs.MultipleLaws.{multiples-none}
use Rattle.section.proofs.StridedLaws.{cell-inside}
use Rattle.section.proofs.GoingLaws.{spread-pos}
use Rattle.section.proofs.shares.positions_to.Goals as goal
use Rattle.section.proofs.shares.positions_to.Goals.{then-w, else-w}

pub returns-then-w-eq0 : goal.returns-then-w-eq0
returns-then-w-eq0 c = sym (multiples-none _ _ _ (spread-pos c.args.w c.requires.0) c.if-w-eq0.true)

pub overflow_add-first : goal.overflow_add-first
overflow_add-first c =
    let inside = cell-inside c.args.w c.requires.0 0 (omega arith) in
    record { fits = omega (arith, c.cell_at-first.ensures, inside, c.requires.0.sized.cells-high) }

pub multiples_below-requires : goal.multiples_below-requires
multiples_below-requires c =
    let inside = cell-inside c.args.w c.requires.0 0 (omega arith) in
    let far : c.if-w.distance ≤ 4398046511104 = elim c.if-w.branch [
      | then-w w ↦ omega (arith, w.distance-is, w.saturating_sub-distance.ensures, c.requires.1)
      | else-w w ↦ omega (arith, w.distance-is, w.saturating_sub-distance-else-w.ensures, c.cell_at-first.ensures, inside, c.requires.0.sized.cells-high)
    ] in
    let some : 0 < c.spread_of.result = omega (arith, c.spread_of.ensures, spread-pos c.args.w c.requires.0) in
    (some, omega (arith, c.spread_of.ensures, c.requires.0.spread-fits))
