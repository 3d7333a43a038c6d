-- `known_turns` meets its contract.
use mathlib.Core.Logic.{inr}
use native.Mathlib.Omega.{arith}
use Rattle.walk.specs.Moving.{stepped}
use Rattle.walk.proofs.BurstLaws.{bursting-starts, bursting-turns, bursting-ends, bursting-sound, bursting-steps}
use Rattle.walk.proofs.columns.known_turns.Goals as goal

pub loop-i-init : goal.loop-i-init
loop-i-init c = bursting-starts

pub offset_bounds-columns-s : goal.offset_bounds-columns-s
offset_bounds-columns-s c = omega (arith, (bursting-sound c.loop-i.invariant c.requires.0).column, c.requires.0.small.block)

pub bounds-columns-s : goal.bounds-columns-s
bounds-columns-s c = omega (arith, (bursting-sound c.loop-i.invariant c.requires.0).column, c.requires.2)

pub overflow_cast-s : goal.overflow_cast-s
overflow_cast-s c = omega (arith, (bursting-sound c.loop-i.invariant c.requires.0).address)

pub step-requires : goal.step-requires
step-requires c = bursting-steps c.loop-i.invariant c.requires.0 c.loop-i-test.true c.if-count-s.false

pub moved_on-s-requires : goal.moved_on-s-requires
moved_on-s-requires c = ((bursting-sound c.loop-i.invariant c.requires.0).address, omega arith)

pub loop-i-preserved : goal.loop-i-preserved
unfolding stepped
loop-i-preserved c =
    rw (c.put_entry.ensures, c.moved_on-s.ensures, c.step.ensures)
    (bursting-turns c.loop-i.invariant c.loop-i-test.true (c.if-count-s.false, c.if-add-eq0.false))

pub returns-then-count-s : goal.returns-then-count-s
returns-then-count-s c = bursting-ends c.loop-i.invariant c.requires.1 c.requires.0.some (inr (λ h. omega (arith, c.if-count-s.true, h.0)))

pub returns-then-add-eq0 : goal.returns-then-add-eq0
returns-then-add-eq0 c = bursting-ends c.loop-i.invariant c.requires.1 c.requires.0.some (inr (λ h. h.1 c.if-add-eq0.true))
