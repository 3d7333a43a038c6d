-- `two_plan` meets its contract.
use Prim.Native.Nat.{ℕ}
use mathlib.Core.Path.{ap, ◌∙◌}
use native.Mathlib.Omega.{arith}
use Rattle.model.specs.declared.Steps.TheVariants.{TwoSteps}
use Rattle.fill.specs.SectionMoves.{moves_by}
use Rattle.fill.proofs.PlanLaws.{taken-bounded, taken-spread, line-planned, learnt-planned}
use Rattle.fill.proofs.plan.two_plan.Goals as goal

pub returns-then-w-eq1 : goal.returns-then-w-eq1
returns-then-w-eq1 c = λ q. line-planned c.args.w q c.args.r c.args.b c.requires.1 c.if-w-eq1.true _ c.line_moves.ensures

pub spread_of-requires : goal.spread_of-requires
spread_of-requires c = taken-bounded _ c.requires.0

pub moves_by-requires : goal.moves_by-requires
moves_by-requires c = omega (arith, c.spread_of.ensures, taken-spread _ c.requires.0)

pub returns : goal.returns
returns c =
    λ q.
    learnt-planned c.args.w q c.args.r c.args.b c.requires.1 _
    (c.moves_by.ensures ∙ ap (λ (z : ℕ). moves_by c.args.w.layout.block z (TwoSteps c.args.r c.args.b) 0 0 0) c.spread_of.ensures)
