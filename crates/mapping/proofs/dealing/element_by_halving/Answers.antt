-- `element_by_halving` meets its contract: processor q has at most x elements below low, and more than x below high.
-- The measure is how far low and high lie apart. Assumes nothing.
use mathlib.Core.Path.{sym}
use native.Mathlib.Omega.{arith}
use Rattle.model.specs.Ownership.{owner_of}
use Rattle.model.proofs.HeldLaws.{held_none, held-le, back_at}
use Rattle.mapping.proofs.dealing.element_by_halving.Goals as goal

pub loop-low-init : goal.loop-low-init
loop-low-init c = omega (arith, held_none (owner_of c.args.l) c.args.q, held-le (owner_of c.args.l) c.args.q c.args.l.size)

pub returns : goal.returns
returns c = sym (back_at _ _ _ _ _ c.loop-low.high (omega arith) c.loop-low.invariant.1 c.loop-low.invariant.2 c.loop-low.invariant.3)
