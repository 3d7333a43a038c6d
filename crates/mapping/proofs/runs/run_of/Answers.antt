-- `run_of` meets its contract.
use Prim.Native.Nat.{suc, ◌+◌}
use mathlib.Core.Path.{◌≡◌}
use native.Mathlib.Omega.{arith}
use Rattle.numbers.specs.Words.{words_of}
use Rattle.model.specs.Ownership.{run_start}
use Rattle.model.proofs.RunOwners.{next_start}
use Rattle.mapping.proofs.runs.run_of.Goals as goal

pub returns-clause-value : goal.returns-clause-value
returns-clause-value c =
    let ws = words_of 4 c.args.sizes.now in
    let end : c.start_of-start.result + c.word_at.result ≡ run_start ws (suc c.args.q) =
    omega (arith, c.start_of-start.ensures.value, c.word_at.ensures, next_start ws c.args.q) in
    cc (c.start_of-start.ensures.value, end)
