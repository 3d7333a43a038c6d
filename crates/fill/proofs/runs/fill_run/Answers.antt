-- `fill_run` meets its contract.
use Rattle.fill.proofs.DealtFills.{of_none}
use Rattle.fill.proofs.runs.fill_run.Goals as goal

pub returns-then-s : goal.returns-then-s
returns-then-s c = of_none c.args.s c.requires.0 c.if-s.true c.args.list.now
