-- `tries_of` meets its contract. The tries paid, and those of what is left, are those of the whole list.
use mathlib.Core.Path.{◌∙◌}
use native.Mathlib.Omega.{arith}
use Rattle.print.specs.Ahead.{listed}
use Rattle.print.proofs.WentLaws.{fewer-left, paid-so-far, all_paid, tries-few}
use Rattle.print.proofs.fills.tries_of.Goals as goal

pub overflow_add-tries : goal.overflow_add-tries
overflow_add-tries c =
    let x = listed c.args.x in
    omega (
      arith,
      paid-so-far x c.args.q c.fill_on-g.ensures c.loop-rest.tries _ c.loop-rest.invariant.2,
      tries-few x c.requires.0.fair.accepted c.args.q,
    )

pub loop-rest-smaller : goal.loop-rest-smaller
loop-rest-smaller c =
    fewer-left (listed c.args.x) c.args.q c.fill_on-g.ensures c.loop-rest.invariant.1 (omega (arith, c.loop-rest-test.true))
    (omega (arith, c.loop-rest.invariant.0, c.requires.1))

pub loop-rest-preserved : goal.loop-rest-preserved
loop-rest-preserved c = (
  c.fill_on-g.ensures.same ∙ c.loop-rest.invariant.0,
  c.fill_on-g.ensures.stands,
  paid-so-far (listed c.args.x) c.args.q c.fill_on-g.ensures c.loop-rest.tries _ c.loop-rest.invariant.2,
)

pub returns : goal.returns
returns c = all_paid (listed c.args.x) c.args.q c.loop-rest.invariant.1 (omega (arith, c.loop-rest-test.false)) c.loop-rest.tries _ c.loop-rest.invariant.2
