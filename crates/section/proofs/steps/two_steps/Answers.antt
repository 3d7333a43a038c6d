-- `two_steps` meets its contract. The invariant: no smaller multiple comes nearer than the two. The measure: what is left of both.
use mathlib.Core.Logic.{inl, inr}
use native.Mathlib.Omega.{arith}
use Rattle.section.proofs.FallLaws.{cells-a, cells-b, may-a, keep-a, keep-b, processor-is, return-is}
use Rattle.section.proofs.steps.two_steps.Goals as goal
use Rattle.section.proofs.steps.two_steps.Goals.{else-a-k-via-then-a-k+else-b-k, else-a-k-via-else-a-k}

pub overflow_mul-result : goal.overflow_mul-result
overflow_mul-result c = omega (arith, cells-a c.requires c.loop-a.invariant)

pub overflow_mul-result-then-b-k : goal.overflow_mul-result-then-b-k
overflow_mul-result-then-b-k c = omega (arith, cells-b c.requires c.loop-a.invariant)

pub loop-a-preserved-then-a-b : goal.loop-a-preserved-then-a-b
loop-a-preserved-then-a-b c = keep-b c.requires c.loop-a.invariant c.fall-b.result c.fall-b.ensures

pub fall-a-requires : goal.fall-a-requires
fall-a-requires c =
    may-a c.requires c.loop-a.invariant c.if-a-b.false
    (elim c.else-a-k.branch [
      | else-a-k-via-then-a-k+else-b-k w ↦ inr (omega arith)
      | else-a-k-via-else-a-k w ↦ inl (omega arith)
    ])

pub loop-a-preserved : goal.loop-a-preserved
loop-a-preserved c = keep-a c.requires c.loop-a.invariant c.fall-a.result c.fall-a.ensures

pub returns : goal.returns
returns c = (processor-is c.requires c.loop-a.invariant c.if-a-k.true c.if-b-k.true, return-is c.requires c.loop-a.invariant c.if-a-k.true c.if-b-k.true)
