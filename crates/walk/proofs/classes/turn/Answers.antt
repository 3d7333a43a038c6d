-- `turn` meets its contract.
use Prim.Native.Nat.{◌-◌}
use mathlib.Core.Path.{◌≡◌, ap}
use native.Mathlib.Nat.{mod-le}
use native.Mathlib.Omega.{arith}
use borrow.Author.Rules.{rules}
use Rattle.walk.specs.declared.moves.State.{State}
use Rattle.walk.specs.Moving.{stepped, move_from}
use Rattle.walk.proofs.MoveLaws.{tries-few}
use Rattle.walk.proofs.LearnLaws.{period-bounds}
use Rattle.walk.proofs.classes.turn.Goals as goal
use Rattle.walk.proofs.classes.turn.Goals.{After-step-next}

-- the tries of the step
cost : (c : After-step-next) → c.step-next.result.paid - c.args.s.paid
    ≡ (move_from c.args.f.moves c.args.s.column).tries
unfolding stepped
cost c = omega (arith, ap (λ (s : State). s.paid) c.step-next.ensures)

pub overflow_sub-tries : goal.overflow_sub-tries
unfolding stepped
overflow_sub-tries c = omega (arith, ap (λ (s : State). s.paid) c.step-next.ensures)

pub nonzero_rem-c : goal.nonzero_rem-c
nonzero_rem-c c = rw c.period.ensures (period-bounds _ c.requires.0.sized).0

pub overflow_add-c : goal.overflow_add-c
overflow_add-c c = omega (arith, c.requires.2.column, c.requires.1.block, mod-le c.args.s.column c.period.result, cost (goal.at.overflow_add-c c).After-step-next, tries-few c.args.f.moves c.args.s.column)

pub returns : goal.returns
unfolding stepped
returns c =
    let e = rw (c.period.ensures, cost (goal.at.returns c).After-step-next, c.step-next.ensures) at c.move_by-add.ensures in
    rw (c.stop_at.ensures, c.moved_on.ensures, c.step-next.ensures, ← e.0) (search rules, e.2)
