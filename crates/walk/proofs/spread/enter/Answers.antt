-- `enter` meets its contract.
use native.Mathlib.Omega.{arith}
use Rattle.walk.proofs.LearnLaws.{period-bounds}
use Rattle.walk.proofs.SpreadLaws.{entered-class}
use Rattle.walk.proofs.spread.enter.Goals as goal

pub nonzero_div-first : goal.nonzero_div-first
nonzero_div-first c = rw c.period-period.ensures (period-bounds _ c.requires.0.sized).0

pub enter_from-requires : goal.enter_from-requires
enter_from-requires c =
    let b = period-bounds _ c.requires.0.sized in
    (rw c.period-period.ensures b.0, rw c.period-period.ensures b.1, omega (arith, c.span_at-span.ensures.inside, c.requires.1.block), omega (arith, c.span_at-span.ensures.inside, c.requires.3))

pub returns : goal.returns
returns c = entered-class c.span_at-span.ensures (rw c.period-period.ensures at c.enter_from.ensures)
