-- `start_of` meets its contract.
use mathlib.Core.Path.{refl}
use native.Mathlib.Numerals.{add-one}
use native.Mathlib.Omega.{arith}
use Rattle.numbers.specs.Search.{sum}
use Rattle.numbers.specs.Words.{words_of}
use Rattle.model.specs.Ownership.{run_start}
use Rattle.model.proofs.RunOwners.{next_start}
use Rattle.mapping.proofs.runs.start_of.Goals as goal
use Rattle.mapping.proofs.runs.start_of.Goals.{After-word_at}

pub loop-i-init : goal.loop-i-init
unfolding run_start sum
loop-i-init c = (refl, omega arith)

pub loop-i-preserved : goal.loop-i-preserved
loop-i-preserved c =
    let ws = words_of 4 c.args.sizes.now in (
      rw (add-one c.loop-i.i, next_start ws c.loop-i.i) (omega (arith, c.loop-i.invariant.0, c.word_at.ensures)),
      omega (arith, c.word_at.type_inv, c.loop-i.invariant.1),
    )
