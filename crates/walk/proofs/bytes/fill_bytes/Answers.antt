-- `fill_bytes` meets its contract.
use mathlib.Core.Path.{sym, ◌∙◌}
use mathlib.Core.Logic.{inl, inr}
use native.Mathlib.Omega.{arith}
use Rattle.walk.proofs.BurstLaws.{made-sure}
use Rattle.walk.proofs.ByteRuns.{bytes-start, bytes-burst, bytes-end}
use Rattle.walk.proofs.bytes.fill_bytes.Goals as goal
use Rattle.walk.proofs.bytes.fill_bytes.Goals.{else-loop-n-test, then-loop-n-test+then-has_ended}

pub loop-n-init : goal.loop-n-init
loop-n-init c = bytes-start _ _ _ _ _ c.requires

pub loop-n-preserved : goal.loop-n-preserved
loop-n-preserved c =
    let made = c.next_turns-made.ensures in
    let paid = c.paid_turns-turns.ensures in
    rw (c.stop_at-s.ensures, made.state, made.list)
    (bytes-burst c.loop-n.invariant c.requires (made-sure made (λ z g. g) paid.2) (omega (arith, paid.1, made.low)))

pub returns : goal.returns
returns c =
    rw c.report.ensures (bytes-end c.loop-n.invariant
    (elim c.loop-n-test.branch [ else-loop-n-test w ↦ inl (omega arith) | then-loop-n-test+then-has_ended w ↦ inr (sym w.has_ended.ensures ∙ w.if-has_ended.true) ]))
