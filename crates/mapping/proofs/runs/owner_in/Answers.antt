-- `owner_in` meets its contract.
use Prim.Native.Nat.{suc, ◌+◌}
use mathlib.Core.Path.{◌≡◌, refl, sym}
use native.Mathlib.Numerals.{add-one}
use native.Mathlib.Omega.{arith}
use Rattle.numbers.specs.Search.{sum}
use Rattle.numbers.specs.Words.{words_of}
use Rattle.numbers.proofs.WordLaws.{words-length}
use Rattle.model.specs.Ownership.{run_start}
use Rattle.model.proofs.RunOwners.{next_start, start-end, run-owner}
use Rattle.mapping.proofs.runs.owner_in.Goals as goal
use Rattle.mapping.proofs.runs.owner_in.Goals.{After-from, After-word_at}

pub loop-q-init : goal.loop-q-init
unfolding run_start sum
loop-q-init c = (refl, omega arith, omega arith)

-- the run of q ends where that of the next one starts
run_end : (c : After-from) → c.loop-q.start + c.from.result ≡ run_start (words_of 4 c.args.sizes.now) (suc c.loop-q.q)
run_end c =
    let ws = words_of 4 c.args.sizes.now in
    omega (arith, next_start ws c.loop-q.q, c.loop-q.invariant.0, c.word_at.ensures, c.from.ensures)

pub loop-q-preserved : goal.loop-q-preserved
loop-q-preserved c = (
  rw (add-one c.loop-q.q) (run_end (goal.at.loop-q-preserved c).After-from),
  omega (arith, c.if-c-end.false),
  omega (arith, c.word_at.type_inv, c.loop-q.invariant.2),
)

-- the runs end after the last cell
pub unreachable-requires : goal.unreachable-requires
unreachable-requires c =
    let all = start-end (words_of 4 c.args.sizes.now) c.loop-q.q (omega (arith, words-length 4 c.args.sizes.now, c.loop-q-test.false)) in
    omega (arith, all, c.loop-q.invariant.0, c.loop-q.invariant.1, c.requires.0)

pub returns-then-c-end-clause-processor_value : goal.returns-then-c-end-clause-processor_value
returns-then-c-end-clause-processor_value c =
    let ws = words_of 4 c.args.sizes.now in
    let end = run_end (goal.at.returns-then-c-end-clause-processor_value c).After-from in
    sym (run-owner ws c.args.c.0 c.loop-q.q (omega (arith, c.loop-q.invariant.0, c.loop-q.invariant.1))
    (omega (arith, c.if-c-end.true, end, next_start ws c.loop-q.q)))
