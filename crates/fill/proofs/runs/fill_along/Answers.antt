-- `fill_along` meets its contract.
use Prim.Native.Nat.{ℕ, ◌+◌, ◌-◌, ◌/◌, ◌≤◌, ◌<◌}
use mathlib.Core.Path.{◌≡◌, sym, ap, subst}
use mathlib.Core.Bool.{cond}
use mathlib.Core.List.{List}
use native.Mathlib.Omega.{arith}
use borrow.Author.Tests.{lt-ltb, le-ltb}
use lib.Dec.{ltb}
use lib.ListN.{length}
use Rattle.model.specs.ByteFills.{store_entries}
use Rattle.section.specs.Shares.{off_base}
use Rattle.section.proofs.StridedLaws.{index-inside}
use Rattle.fill.specs.RunFills.{addresses_from, entries_in}
use Rattle.fill.specs.Ready.{FillsBytesFrom}
use Rattle.fill.proofs.SmallMoves.{onward-low}
use Rattle.fill.proofs.DealtFills.{room, of-run}
use Rattle.fill.proofs.runs.fill_along.Goals as goal
use Rattle.fill.proofs.runs.fill_along.Goals.{After-onward_by}

pub overflow_sub-first : goal.overflow_sub-first
overflow_sub-first c = omega (arith, c.index_at.ensures, (room c.args.s c.args.r c.requires).1)

-- the numbers of the run
written : (c : After-onward_by) → c.entries_in-n.result ≡ entries_in c.args.r.high.0 c.args.s.place.0 c.args.s.quota (length c.args.list.now / 4)
written c =
    c.entries_in-n.ensures

first : (c : After-onward_by) → c.index_at.result.0 - c.args.r.base.0 ≡ off_base c.args.s.section c.args.r c.args.s.place.0
first c =
    ap (λ (i : ℕ). i - c.args.r.base.0) c.index_at.ensures

low : (c : After-onward_by) → c.index_at.result.0 < 2147483648
low c =
    omega (arith, c.index_at.ensures, index-inside c.args.s.section c.requires.accepted.started.section-bounded c.args.s.place.0 c.requires.below, c.requires.accepted.started.section-bounded.sized.size-high)

inside : (c : After-onward_by) → (c.entries_in-n.result ≤ length c.args.list.now / 4) × (c.args.s.place.0 + c.entries_in-n.result ≤ c.args.r.high.0)
inside c = (omega (arith, (written c)), omega (arith, (written c), (room c.args.s c.args.r c.requires).0))

pub put_run-requires : goal.put_run-requires
put_run-requires c = ((inside (goal.at.put_run-requires c).After-onward_by).0, omega (arith, low (goal.at.put_run-requires c).After-onward_by), omega (arith, c.onward_by.ensures, onward-low c.args.s.section.upward c.args.s.section.stride))

-- what was put, and where the fill ends
filled : (c : After-onward_by) (bs : List ℕ) (p : ℕ)
    → bs ≡ store_entries c.args.list.now 0 (addresses_from c.entries_in-n.result (c.index_at.result.0 - c.args.r.base.0) c.onward_by.result)
    → p ≡ cond (ltb (c.args.s.place.0 + c.entries_in-n.result) c.args.r.high.0) (c.args.s.place.0 + c.entries_in-n.result) c.args.s.section.count
    → FillsBytesFrom c.args.s c.args.list.now bs (record { entries = c.entries_in-n.result; tries = c.entries_in-n.result; place = record { 0 = p } })
filled c bs p put end =
    subst (λ (l : List ℕ). FillsBytesFrom c.args.s c.args.list.now l (record { entries = c.entries_in-n.result; tries = c.entries_in-n.result; place = record { 0 = p } }))
    (sym put) (of-run c.args.s c.args.r c.requires c.args.list.now _ _ _ p (written c) (first c) c.onward_by.ensures end)

pub returns-then-on-r : goal.returns-then-on-r
returns-then-on-r c = filled (goal.at.returns-then-on-r c).After-onward_by _ _ c.put_run.ensures (rw (lt-ltb _ _ c.if-on-r.true))

pub returns-else-on-r : goal.returns-else-on-r
returns-else-on-r c = filled (goal.at.returns-else-on-r c).After-onward_by _ _ c.put_run.ensures (rw (le-ltb _ _ c.if-on-r.false))
