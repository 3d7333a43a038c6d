-- `fill_from` meets its contract: each chunk goes on where the one before it ended.
use Prim.Native.Nat.{◌+◌, ◌-◌, ◌≤◌}
use native.Mathlib.Omega.{arith}
use lib.ListN.{length, length-take, length-drop}
use Rattle.fill.proofs.ChunkLaws.{bounds, chunk-some, chunk-on, chunks-full, chunks-count, chunks-quota}
use Rattle.fill.proofs.words.fill_from.Goals as goal
use Rattle.fill.proofs.words.fill_from.Goals.{After-fill_chunk-r}

-- after a chunk no more is paid than the quota, and written than there are entries
after : (c : After-fill_chunk-r) → (c.loop-n.paid + c.fill_chunk-r.result.tries ≤ c.args.s.quota) × (c.loop-n.n + c.fill_chunk-r.result.entries ≤ length c.args.list.now)
after c = bounds c.requires (chunk-on c.requires c.loop-n.invariant (c.chunk_end-end.result - c.loop-n.n) c.fill_chunk-r.ensures)

pub overflow_add-paid : goal.overflow_add-paid
overflow_add-paid c = omega (arith, (after (goal.at.overflow_add-paid c).After-fill_chunk-r).0, c.requires.started.most)

pub overflow_add-n : goal.overflow_add-n
overflow_add-n c = omega (arith, (after (goal.at.overflow_add-n c).After-fill_chunk-r).1)

pub loop-n-smaller : goal.loop-n-smaller
loop-n-smaller c =
    omega (
      arith,
      (after (goal.at.loop-n-smaller c).After-fill_chunk-r).1,
      chunk-some c.requires c.loop-n.invariant (c.chunk_end-end.result - c.loop-n.n) c.fill_chunk-r.ensures c.if-place-s.false
          c.if-s-paid-lt-LEAST_TRIES.false (simp (length-take, length-drop) (omega (arith, c.chunk_end-end.ensures))),
    )

pub loop-n-preserved : goal.loop-n-preserved
loop-n-preserved c = chunk-on c.requires c.loop-n.invariant (c.chunk_end-end.result - c.loop-n.n) c.fill_chunk-r.ensures

pub returns-after-loop-n : goal.returns-after-loop-n
returns-after-loop-n c = chunks-full c.requires c.loop-n.invariant c.loop-n-test.false

pub returns-then-place-s : goal.returns-then-place-s
returns-then-place-s c = chunks-count c.requires c.loop-n.invariant c.if-place-s.true

pub returns-then-s-paid-lt-LEAST_TRIES : goal.returns-then-s-paid-lt-LEAST_TRIES
returns-then-s-paid-lt-LEAST_TRIES c = chunks-quota c.requires c.loop-n.invariant c.if-s-paid-lt-LEAST_TRIES.true
