-- `find_move` meets its contract.
use native.Mathlib.Omega.{arith}
use Rattle.walk.proofs.LearnLaws.{address-fits}
use Rattle.walk.proofs.learning.Elements.find_move.Goals as goal

pub overflow_add-result : goal.overflow_add-result
overflow_add-result c = omega (arith, c.address_at.ensures, address-fits _ _ _ c.requires.0 c.if-count-t.false)
