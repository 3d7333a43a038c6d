-- `copy_blocks` meets its contract. The invariant: b blocks are copied.
use Prim.Native.Nat.{ℕ, ◌+◌, ◌*◌}
use mathlib.Core.Path.{sym, ap, ◌∙◌}
use mathlib.Core.List.{List}
use native.Mathlib.Nat.{zero-mul}
use native.Mathlib.Omega.{arith}
use Rattle.model.specs.Storages.{copied}
use Rattle.storage.specs.Copying.{copied_run}
use Rattle.storage.proofs.CopiedRuns.{run_after, by-between}
use Rattle.storage.proofs.words.copy_blocks.Goals as goal

pub loop-b-init : goal.loop-b-init
unfolding copied
loop-b-init g c = ap (λ (n : ℕ). copied_run c.args.at c.args.start n c.args.from.now c.args.to.now) (sym (zero-mul g.row.W))

pub loop-b-preserved : goal.loop-b-preserved
loop-b-preserved g c =
    let w : ℕ = g.row.W in
    let j : ℕ = c.loop-b.b * w in
    let x = c.args in
    c.copy_few-in-loop-b.ensures
    ∙ ap (λ (l : List ℕ). copied_run 0 (x.start + j) w l c.loop-b.to) c.copy_few.ensures
    ∙ by-between (x.at + j) (x.start + j) w x.from.now _ c.loop-b.to (omega arith)
    ∙ run_after x.at x.start j w _ x.from.now x.to.now c.loop-b.to c.loop-b.invariant (omega arith)
