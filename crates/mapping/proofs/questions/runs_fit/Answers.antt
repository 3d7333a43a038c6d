-- `runs_fit` meets its contract.
use Prim.Native.Nat.{◌%◌}
use mathlib.Core.Path.{◌≡◌, sym, ◌∙◌}
use mathlib.Core.Bool.{true}
use native.Mathlib.Omega.{arith}
use lib.IntN.{pos}
use lib.ListN.{length}
use mir.Syntax.{w64}
use Rattle.numbers.proofs.Signed.{read_of}
use Rattle.model.specs.Mappings.{sizes_of}
use Rattle.model.specs.Ownership.{nat}
use Rattle.model.specs.Questions.{between, sizes_fit}
use Rattle.model.proofs.QuestionLaws.{between_is}
use Rattle.mapping.proofs.questions.runs_fit.Goals as goal
use Rattle.mapping.proofs.questions.runs_fit.Goals.{After-within, Then-within}

holds : (c : Then-within) → between (pos 1) (pos 1024) c.args.p ≡ true
holds c = sym ((read_of w64 (between (pos 1) (pos 1024)) c.args.p c.ranges.p c.within.ensures)) ∙ c.if-within.true

pub sizes_fit-requires : goal.sizes_fit-requires
sizes_fit-requires c =
    let w = between_is 1 1024 c.args.p (holds (goal.at.sizes_fit-requires c).Then-within) in
    omega (arith, read_of w64 nat c.args.p c.ranges.p c.natural.ensures, w.upto)

pub returns-then-within : goal.returns-then-within
unfolding sizes_fit nat
returns-then-within c =
    let t = read_of w64 nat c.args.t c.ranges.t c.natural-then-within.ensures in
    let p = read_of w64 nat c.args.p c.ranges.p c.natural.ensures in
    rw (holds (goal.at.returns-then-within c).Then-within) (c.sizes_fit.ensures ∙ (λ i. sizes_fit (pos (t i)) (pos (p i)) (sizes_of c.args.sizes.now) (length c.args.sizes.now % 4)))
