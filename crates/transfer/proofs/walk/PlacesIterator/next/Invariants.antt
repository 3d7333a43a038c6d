-- `next` meets its contract. The invariant: nothing was passed that is a position of the pair. The measure: what is left of the section.
use Prim.Native.Nat.{◌-◌}
use mathlib.Core.Path.{◌≡◌}
use Rattle.transfer.proofs.AlongLaws.{Stands, ahead}
use Rattle.transfer.proofs.walk.PlacesIterator.next.Given as goal

abbrev pub invariant-loop-self : goal.invariant-loop-self
invariant-loop-self l =
    (l.self.walk ≡ l.initial.self.walk) × Stands l.walked l.tested l.self.at.0
    × (ahead l.walked l.tested l.self.at.0 ≡ ahead l.walked l.tested l.initial.self.at.0)

abbrev pub decreases-loop-self : goal.decreases-loop-self
decreases-loop-self l = l.walked.section.count - l.self.at.0
