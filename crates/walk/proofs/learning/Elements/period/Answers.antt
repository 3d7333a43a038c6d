-- `period` meets its contract.
use Prim.Native.Nat.{ℕ, min}
use mathlib.Core.Path.{◌≡◌}
use mathlib.Core.Bool.{cond}
use native.Mathlib.Decide.{dec_lt}
use native.Mathlib.Omega.{arith}
use lib.Dec.{ltb}
use borrow.Author.Tests.{lt-ltb, le-ltb}
use Rattle.walk.specs.Learning.{period_of}
use Rattle.walk.proofs.learning.Elements.period.Goals as goal

min-tests : (a b : ℕ) → min a b ≡ cond (ltb a b) a b
min-tests a b = elim (dec_lt a b) [
  | yes h ↦ rw (lt-ltb a b h) (omega arith)
  | no h ↦ rw (le-ltb a b (omega arith)) (omega arith)
]

pub returns : goal.returns
unfolding period_of
returns c = rw c.min.ensures (min-tests _ _)
