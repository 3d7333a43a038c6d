-- `repeat` meets its contract. The invariant: the entries before j are written.
use Rattle.walk.specs.Copying.{Extends}
use Rattle.walk.proofs.copies.repeat.Given as goal

abbrev pub invariant-loop-j : goal.invariant-loop-j
invariant-loop-j l = Extends l.distance l.add l.j l.initial.list l.list
