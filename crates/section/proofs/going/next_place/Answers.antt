-- `next_place` meets its contract: each case of the steps.
use Prim.Native.Nat.{ℕ, ◌%◌}
use mathlib.Core.Path.{sym, ap, ◌∙◌, subst}
use native.Mathlib.Nat.{mod-lt}
use Rattle.model.specs.Ownership.{column_of}
use Rattle.model.specs.Steps.{try_both}
use Rattle.section.specs.Answers.{Short}
use Rattle.section.specs.Going.{on_from, next_by, next_in}
use Rattle.section.proofs.StepAnswers.{cyclic-short}
use Rattle.section.proofs.GoingLaws.{Light, light}
use Rattle.section.proofs.going.next_place.Goals as goal

pub cells_on-requires : goal.cells_on-requires
cells_on-requires c =
    let is = sym c.in-TwoSteps.is ∙ c.requires.1 in
    record {
      column = mod-lt _ c.requires.0.bounded.sized.block-pos;
      block = c.requires.0.bounded.sized.block-high;
      moves = subst (Short 65536) (sym is) (cyclic-short c.args.w c.requires.0.bounded);
      cells = subst Light (sym is) (light c.args.w c.requires.0.bounded);
    }

pub returns-in-NoStep : goal.returns-in-NoStep
unfolding next_in
returns-in-NoStep c = ap (next_by c.args.w c.args.t.0) (sym c.in-NoStep.is ∙ c.requires.1)

pub returns-in-OneStep : goal.returns-in-OneStep
unfolding next_in
returns-in-OneStep c = c.moved_on.ensures ∙ ap (next_by c.args.w c.args.t.0) (sym c.in-OneStep.is ∙ c.requires.1)

pub returns-in-TwoSteps : goal.returns-in-TwoSteps
unfolding next_in column_of
returns-in-TwoSteps c =
    c.moved_on-in-TwoSteps.ensures
    ∙ ap (on_from c.args.w c.args.t.0)
    (c.cells_on.ensures
    ∙ ap (λ (n : ℕ). (try_both c.args.w.upward c.args.w.layout.block (n % c.args.w.layout.block) c.in-TwoSteps.r c.in-TwoSteps.b).cells) c.cell_at.ensures)
    ∙ ap (next_by c.args.w c.args.t.0) (sym c.in-TwoSteps.is ∙ c.requires.1)
