-- `copy_all` meets its contract. The invariant: the words below the run's index are copied. The measure: those that are left.
use Rattle.storage.proofs.PaceLaws.{paced}
use Rattle.storage.proofs.LapLaws.{along-start, along-on}
use Rattle.storage.proofs.laps.copy_all.Goals as goal

pub first_run-r-requires-clause-paced : goal.first_run-r-requires-clause-paced
first_run-r-requires-clause-paced c = rw c.pace_of-pace.ensures (paced c.args.layout c.requires.sized)

pub loop-r-init : goal.loop-r-init
loop-r-init c =
    rw (c.first_run-r.ensures, c.pace_of-pace.ensures)
    (along-start c.args.loading c.args.layout c.args.row.now c.args.from.now c.args.to.now c.requires)

pub loop-r-preserved : goal.loop-r-preserved
loop-r-preserved c = rw c.wrapped_run-r.ensures (along-on c.loop-r.invariant c.loop-r-test.true c.lap.ensures)
