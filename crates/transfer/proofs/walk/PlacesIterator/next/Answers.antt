-- `next` meets its contract: it passes over what the other share does not own.
use mathlib.Core.Path.{sym, ap, ◌∙◌}
use native.Mathlib.Omega.{arith}
use lib.ListN.{length}
use Rattle.transfer.specs.Walks.{Standing}
use Rattle.transfer.proofs.AlongLaws.{Turn, on-walked, on-tested, none_ahead, turn}
use Rattle.transfer.proofs.walk.PlacesIterator.next.Goals as goal
use Rattle.transfer.proofs.walk.PlacesIterator.next.Goals.{After-owns_at}

pub next_of-self-requires : goal.next_of-self-requires
next_of-self-requires c = (on-walked _ _ c.requires.meets _ c.loop-self-test.true, c.requires.steps)

pub owns_at-requires : goal.owns_at-requires
owns_at-requires c = on-tested _ _ c.requires.meets _ c.loop-self-test.true

-- where the walk goes on
turned : (c : After-owns_at) → Turn c.args.self.now.walk.walked c.args.self.now.walk.tested c.loop-self.self.at.0 c.next_of-self.result.0
turned c = turn _ _ c.requires.meets _ _ c.loop-self.invariant.1 c.loop-self-test.true c.next_of-self.ensures

pub returns-then-owns_at-clause-steps : goal.returns-then-owns_at-clause-steps
returns-then-owns_at-clause-steps c =
    let t = turned (goal.at.returns-then-owns_at-clause-steps c).After-owns_at in
    let hit = t.hit (sym c.owns_at.ensures ∙ c.if-owns_at.true) in
    rw c.loop-self.invariant.0 (sym c.loop-self.invariant.2 ∙ hit)

pub returns-then-owns_at-clause-goes : goal.returns-then-owns_at-clause-goes
returns-then-owns_at-clause-goes c =
    let t = turned (goal.at.returns-then-owns_at-clause-goes c).After-owns_at in
    let hit = t.hit (sym c.owns_at.ensures ∙ c.if-owns_at.true) in
    let stands : Standing (record c.args.self.now { at = c.next_of-self.result }) =
    record { meets = c.requires.meets; steps = c.requires.steps; inside = t.stands.inside; mine = t.stands.mine } in
    rw c.loop-self.invariant.0
    (record { on = λ f. (stands, tt, omega (arith, ap length (sym c.loop-self.invariant.2 ∙ hit))); keeps = stands; rests = λ f. tt })

pub loop-self-smaller : goal.loop-self-smaller
loop-self-smaller c = omega (arith, (turned (goal.at.loop-self-smaller c).After-owns_at).on, c.loop-self-test.true)

pub loop-self-preserved : goal.loop-self-preserved
loop-self-preserved c =
    let t = turned (goal.at.loop-self-preserved c).After-owns_at in
    (c.loop-self.invariant.0, t.stands, sym (t.miss (sym c.owns_at.ensures ∙ c.if-owns_at.false)) ∙ c.loop-self.invariant.2)

pub returns-clause-steps : goal.returns-clause-steps
returns-clause-steps c =
    let none = none_ahead c.args.self.now.walk.walked c.args.self.now.walk.tested c.loop-self.self.at.0 c.loop-self-test.false in
    (sym c.loop-self.invariant.2 ∙ none, rw c.loop-self.invariant.0 none)
