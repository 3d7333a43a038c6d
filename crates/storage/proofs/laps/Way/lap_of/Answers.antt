-- `lap_of` meets its contract. The invariant: some runs were taken. The measure: the elements that are left.
use mathlib.Core.Logic.{inr}
use Rattle.storage.proofs.CopyRuns.{goes_on}
use Rattle.storage.proofs.laps.Way.lap_of.Goals as goal

pub loop-r-preserved : goal.loop-r-preserved
loop-r-preserved g c = inr (goes_on c.requires.ready c.loop-r.invariant c.take_run-r.ensures)
