-- `element_at` meets its contract.
use native.Mathlib.Omega.{arith}
use Rattle.walk.specs.Learning.{element_at}
use Rattle.walk.proofs.learning.Elements.element_at.Goals as goal

pub overflow_add-result : goal.overflow_add-result
unfolding element_at
overflow_add-result c = omega (arith, rw c.if-self.true at (c.requires.0.inside _ c.requires.1), c.requires.0.sized.size-high)

pub returns-then-self : goal.returns-then-self
unfolding element_at
returns-then-self c = rw c.if-self.true

pub returns : goal.returns
unfolding element_at
returns c = rw c.if-self.false
