-- `more_digits` meets its contract. The invariant: what is read from here on, after the digits so far, is what is read from
-- the beginning.
use Prim.Native.Nat.{◌<◌}
use mathlib.Core.Path.{◌≡◌}
use lib.ListN.{length}
use Rattle.sheet.specs.Numbers.{digits}
use Rattle.sheet.proofs.number.Cursor.more_digits.Given as goal

abbrev pub invariant-loop-b : goal.invariant-loop-b
invariant-loop-b l = (l.n < l.max) × (digits l.max l.end l.n l.rest ≡ digits l.max l.end l.initial.n l.fn.self.rest.now)

abbrev pub decreases-loop-b : goal.decreases-loop-b
decreases-loop-b l = length l.rest
