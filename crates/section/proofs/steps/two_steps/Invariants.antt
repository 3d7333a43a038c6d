-- `two_steps` meets its contract. The invariant: no smaller multiple comes nearer than the two. The measure: what is left of both.
use Prim.Native.Nat.{◌+◌}
use Rattle.section.proofs.FallLaws.{Sides}
use Rattle.section.proofs.steps.two_steps.Given as goal

abbrev pub invariant-loop-a : goal.invariant-loop-a
invariant-loop-a l = Sides l.s l.m l.k l.a l.b

abbrev pub decreases-loop-a : goal.decreases-loop-a
decreases-loop-a l = l.a.left + l.b.left
