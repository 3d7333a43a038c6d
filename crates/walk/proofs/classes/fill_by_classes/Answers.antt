-- `fill_by_classes` meets its contract.
use Prim.Native.Nat.{◌/◌}
use mathlib.Core.Path.{◌≡◌, sym, ◌∙◌}
use mathlib.Core.Logic.{inl, inr}
use native.Mathlib.Omega.{arith}
use lib.ListN.{length}
use Rattle.walk.proofs.LearnBytes.{even-bytes-start, even-bytes-end, class-turn}
use Rattle.walk.proofs.classes.fill_by_classes.Goals as goal

pub loop-n-init : goal.loop-n-init
loop-n-init c = even-bytes-start c.requires.0 c.requires.1

pub loop-n-preserved : goal.loop-n-preserved
loop-n-preserved c =
    rw (c.turn-s.ensures.0, c.turn-s.ensures.1, c.put_entry.ensures)
    (class-turn c.requires.0 c.loop-n.invariant c.loop-n-test.true (sym c.has_ended.ensures ∙ c.if-has_ended.false))

pub returns-then-has_ended : goal.returns-then-has_ended
returns-then-has_ended c =
    rw c.report.ensures (even-bytes-end c.requires.0 c.loop-n.invariant (inr (sym c.has_ended.ensures ∙ c.if-has_ended.true)))

pub returns : goal.returns
returns c =
    let all : c.loop-n.n ≡ length c.args.list.now / 4 = omega arith in
    rw c.report-2.ensures (rw all at (even-bytes-end c.requires.0 c.loop-n.invariant (inl (omega arith))))
