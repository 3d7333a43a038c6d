-- `copy_run` meets its contract: whole sixteens, whole fours and the rest.
use Prim.Native.Nat.{ℕ, ◌*◌, ◌/◌, ◌-◌}
use mathlib.Core.Path.{◌∙◌}
use native.Mathlib.Omega.{arith}
use Rattle.storage.proofs.CopiedRuns.{run_after}
use Rattle.storage.proofs.words.copy_run.Goals as goal

pub returns : goal.returns
returns c =
    let x = c.args in
    let long : ℕ = x.n / 16 * 16 in
    let done : ℕ = x.n / 4 * 4 in
    c.copy_few.ensures
    ∙ run_after x.at x.start done (x.n - done) x.n x.from.now x.to.now _
    (c.copy_blocks-2.ensures
    ∙ run_after x.at x.start long ((x.n - long) / 4 * 4) done x.from.now x.to.now _ c.copy_blocks.ensures (omega arith))
    (omega arith)
