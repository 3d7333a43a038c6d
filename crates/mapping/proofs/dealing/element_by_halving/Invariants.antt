-- `element_by_halving` meets its contract: processor q has at most x elements below low, and more than x below high.
-- The measure is how far low and high lie apart. Assumes nothing.
use Prim.Native.Nat.{◌≤◌, ◌<◌, ◌-◌}
use Rattle.model.specs.Ownership.{owner_of, held}
use Rattle.mapping.proofs.dealing.element_by_halving.Given as goal

abbrev pub invariant-loop-low : goal.invariant-loop-low
invariant-loop-low l = (l.low < l.high) × (l.high ≤ l.l.size) × (held (owner_of l.l) l.low l.q ≤ l.x.0) × (l.x.0 < held (owner_of l.l) l.high l.q)

abbrev pub decreases-loop-low : goal.decreases-loop-low
decreases-loop-low l = l.high - l.low
