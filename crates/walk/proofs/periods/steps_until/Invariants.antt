-- `steps_until` meets its contract.
use Rattle.walk.proofs.StepLaws.{Stepping}
use Rattle.walk.proofs.periods.steps_until.Given as goal

abbrev pub invariant-loop-i : goal.invariant-loop-i
invariant-loop-i l = Stepping l.m l.count l.quota l.initial.s l.most l.s l.i
