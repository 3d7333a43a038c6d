-- `burst` meets its contract.
use Prim.Native.Nat.{◌<◌}
use mathlib.Core.Path.{◌≡◌}
use mathlib.Core.Logic.{◌⊎◌, inl, inr}
use native.Mathlib.Omega.{arith}
use borrow.Author.Tests.{ne_eqb}
use Rattle.walk.specs.Moving.{stepped}
use Rattle.walk.proofs.BurstLaws.{bursting-starts, bursting-turns, bursting-ends, bursting-short, bursting-sound, bursting-steps}
use Rattle.walk.proofs.bytes.burst.Given as given
use Rattle.walk.proofs.bytes.burst.Goals as goal
use Rattle.walk.proofs.bytes.burst.Goals.{In-loop-i}

-- before each turn's step the count is not reached: that was tested, or the turn is sure
here : (g : given.Over) (c : In-loop-i g) → ((g.row.SURE ≡ 0) × (c.loop-i.s.place.0 < c.args.count)) ⊎ (g.row.SURE ≡ 0 → ⊥)
    → c.loop-i.s.place.0 < c.args.count
here g c (inl h) = h.1
here g c (inr h) =
    bursting-short c.loop-i.invariant c.requires.0 (c.requires.1 (rw (ne_eqb g.row.SURE 0 h))) c.loop-i-test.true

pub loop-i-init : goal.loop-i-init
loop-i-init g c = bursting-starts

pub overflow_cast-s : goal.overflow_cast-s
overflow_cast-s g c = omega (arith, (bursting-sound c.loop-i.invariant c.requires.0).address)

pub step-s-requires : goal.step-s-requires
step-s-requires g c =
    bursting-steps c.loop-i.invariant c.requires.0 c.loop-i-test.true (here g (goal.at.step-s-requires g c).In-loop-i c.else-not-this.either)

pub loop-i-preserved : goal.loop-i-preserved
unfolding stepped
loop-i-preserved g c =
    rw (c.put_entry.ensures, c.step-s.ensures)
    (bursting-turns c.loop-i.invariant c.loop-i-test.true (here g (goal.at.loop-i-preserved g c).In-loop-i c.else-not-this.either))

pub returns-then-count-s : goal.returns-then-count-s
returns-then-count-s g c =
    bursting-ends c.loop-i.invariant c.requires.0.place c.requires.0.some (inr (λ h. omega (arith, c.if-count-s.true)))
