-- `first_run` meets its contract.
use mathlib.Core.Path.{ap}
use native.Mathlib.Omega.{arith}
use Rattle.storage.specs.declared.runs.Run.{Run}
use Rattle.storage.proofs.PaceLaws.{first_fits}
use Rattle.storage.proofs.runs.Pace.first_run.Goals as goal

pub overflow_sub-result : goal.overflow_sub-result
overflow_sub-result c =
    omega (arith, ap (λ (r : Run). r.length) c.run_at-r.ensures, first_fits c.args.l c.requires.sized c.args.self c.requires.paced)
