-- `fill_by_columns` meets its contract.
use Prim.Native.Nat.{◌-◌}
use Rattle.walk.proofs.LearnBytes.{EvenBytes}
use Rattle.walk.proofs.columns.fill_by_columns.Given as goal

abbrev pub invariant-loop-n : goal.invariant-loop-n
invariant-loop-n l = EvenBytes l.f l.initial.s l.initial.list (λ q. q) l.columns l.list l.s l.n

abbrev pub decreases-loop-n : goal.decreases-loop-n
decreases-loop-n l = l.room - l.n
