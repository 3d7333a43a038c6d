-- `tries_of` meets its contract. The tries paid, and those of what is left, are those of the whole list.
use Prim.Native.Nat.{◌+◌}
use mathlib.Core.Path.{◌≡◌}
use mathlib.Core.List.{map}
use lib.ListN.{length}
use Rattle.numbers.specs.Search.{sum}
use Rattle.model.specs.Sections.{places}
use Rattle.model.specs.Steps.{cost}
use Rattle.print.specs.Ahead.{listed, rest_of, StandsIn}
use Rattle.print.proofs.fills.tries_of.Given as goal

abbrev pub invariant-loop-rest : goal.invariant-loop-rest
invariant-loop-rest l =
    (length l.list ≡ length l.initial.list) × StandsIn (listed l.x) l.q l.rest
    × (l.tries + sum (map (cost (listed l.x)) (rest_of (listed l.x) l.q l.rest)) ≡ sum (map (cost (listed l.x)) (places (listed l.x) l.q)))

abbrev pub decreases-loop-rest : goal.decreases-loop-rest
decreases-loop-rest l = l.rest.left
