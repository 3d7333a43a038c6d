-- `enter_from` meets its contract.
use Rattle.walk.proofs.SpreadLaws.{entering-turns}
use Rattle.walk.proofs.spread.enter_from.Goals as goal

pub loop-at-preserved : goal.loop-at-preserved
loop-at-preserved c = entering-turns _ _ _ _ c.loop-at.invariant c.loop-at-test.true
