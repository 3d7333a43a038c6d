-- `fill_by_columns` meets its contract.
use Prim.Native.Nat.{◌+◌, ◌/◌, ◌≤◌, ◌<◌}
use mathlib.Core.Path.{sym, ◌∙◌}
use mathlib.Core.Logic.{inl, inr}
use native.Mathlib.Omega.{arith}
use lib.ListN.{length}
use Rattle.walk.proofs.LearnBytes.{even-bytes-start, even-bytes-end, columns-advance, advances-some}
use Rattle.walk.proofs.columns.fill_by_columns.Goals as goal
use Rattle.walk.proofs.columns.fill_by_columns.Goals.{After-next_turns-made, else-loop-n-test, then-loop-n-test+then-has_ended}

pub loop-n-init : goal.loop-n-init
loop-n-init c = even-bytes-start c.requires.0 c.requires.2

-- how far the turns go
far : (c : After-next_turns-made) → (0 < c.next_turns-made.result.turns)
    × (c.loop-n.n + c.next_turns-made.result.turns
    ≤ length c.loop-n.list / 4)
far c = advances-some (rw c.loop-n.invariant.same c.loop-n-test.true) c.next_turns-made.ensures

pub overflow_add-n : goal.overflow_add-n
overflow_add-n c = omega (arith, (far (goal.at.overflow_add-n c).After-next_turns-made).1, c.loop-n.invariant.same)

pub loop-n-smaller : goal.loop-n-smaller
loop-n-smaller c = omega (arith, (far (goal.at.loop-n-smaller c).After-next_turns-made).0)

pub loop-n-preserved : goal.loop-n-preserved
loop-n-preserved c =
    columns-advance c.requires.0 c.loop-n.invariant c.loop-n-test.true (sym c.has_ended.ensures ∙ c.if-has_ended.false) c.next_turns-made.ensures

pub returns : goal.returns
returns c =
    rw c.report.ensures (even-bytes-end c.requires.0 c.loop-n.invariant
    (elim c.loop-n-test.branch [ else-loop-n-test w ↦ inl (omega arith) | then-loop-n-test+then-has_ended w ↦ inr (sym w.has_ended.ensures ∙ w.if-has_ended.true) ]))
