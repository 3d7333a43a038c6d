-- `set_starts` meets its contract. The invariant: the pointers below q are set, and start is that of q.
use Prim.Native.Nat.{ℕ, ◌+◌, ◌≤◌}
use mathlib.Core.Path.{◌≡◌, sym}
use native.Mathlib.Numerals.{add-one}
use native.Mathlib.Omega.{arith}
use Rattle.numbers.proofs.RangeSums.{sum-none}
use Rattle.model.specs.Ownership.{owner_of, held}
use Rattle.model.specs.Storages.{storage_start}
use Rattle.model.proofs.CellOwners.{cyclic-owner-lt}
use Rattle.model.proofs.StorageLaws.{start-next, start-high}
use Rattle.storage.proofs.RowLaws.{starts_none, starts-next}
use Rattle.storage.proofs.row.set_starts.Goals as goal
use Rattle.storage.proofs.row.set_starts.Goals.{After-held_below, In-loop-q}

pub loop-q-init : goal.loop-q-init
unfolding storage_start
loop-q-init c = (sym (sum-none (held (owner_of c.args.l) c.args.l.size)), starts_none c.args.l c.args.row.now)

-- a start is no larger than the array
start-low : (c : In-loop-q) (q : ℕ) → q ≤ c.args.l.processors → storage_start (owner_of c.args.l) c.args.l.size q ≤ c.args.l.size
start-low c q = start-high (owner_of c.args.l) c.args.l.processors c.args.l.size (λ i h. cyclic-owner-lt c.args.l c.requires.sized.processors-pos i) q

pub overflow_cast-row : goal.overflow_cast-row
overflow_cast-row c =
    let low = start-low (goal.at.overflow_cast-row c).In-loop-q c.loop-q.q (omega arith) in
    omega (arith, c.loop-q.invariant.0, low, c.requires.sized.size-high)

-- the next start
next_start : (c : After-held_below) → c.loop-q.start + c.held_below.result ≡ storage_start (owner_of c.args.l) c.args.l.size (c.loop-q.q + 1)
next_start c =
    rw (add-one c.loop-q.q) (omega (arith, c.loop-q.invariant.0, c.held_below.ensures, start-next (owner_of c.args.l) c.args.l.size c.loop-q.q))

pub overflow_add-start : goal.overflow_add-start
overflow_add-start c =
    let low = start-low (goal.at.overflow_add-start c).In-loop-q (c.loop-q.q + 1) (omega arith) in
    omega (arith, next_start (goal.at.overflow_add-start c).After-held_below, low, c.requires.sized.size-high)

pub loop-q-preserved : goal.loop-q-preserved
loop-q-preserved c = (
  next_start (goal.at.loop-q-preserved c).After-held_below,
  starts-next c.args.l c.args.row.now c.loop-q.q c.loop-q.start c.loop-q.row c.loop-q.invariant.1
      (omega (arith, c.requires.processors_in_bounds)) c.loop-q.invariant.0,
)
