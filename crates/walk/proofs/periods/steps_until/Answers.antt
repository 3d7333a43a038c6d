-- `steps_until` meets its contract.
use Rattle.walk.proofs.StepLaws.{stepping-starts, stepping-asks, stepping-turns}
use Rattle.walk.proofs.periods.steps_until.Goals as goal

pub loop-i-init : goal.loop-i-init
loop-i-init c = stepping-starts _ _ _ _ _ c.requires.2

pub step-s-requires : goal.step-s-requires
step-s-requires c = stepping-asks _ _ _ _ _ c.requires.0 c.requires.1 c.loop-i.invariant c.if-count-s.false c.if-quota-s-lt-LEAST_TRIES.false c.requires.3 c.requires.4

pub loop-i-preserved : goal.loop-i-preserved
loop-i-preserved c = stepping-turns _ _ _ _ _ c.requires.0 c.requires.1 c.loop-i.invariant c.if-count-s.false c.if-quota-s-lt-LEAST_TRIES.false c.loop-i-test.true c.step-s.ensures
