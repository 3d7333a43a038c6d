-- `steps_of` meets its contract: each return cites the law of its case.
use mathlib.Core.Path.{refl, ap, ◌∙◌}
use native.Mathlib.Omega.{arith}
use Rattle.model.specs.declared.Steps.TheVariants.{OneStep, TwoSteps}
use Rattle.section.proofs.StepAnswers.{no_step, one-step, two_steps, divisor-pos, spread-high, cells-high, searched}
use Rattle.section.proofs.steps.steps_of.Goals as goal

pub returns-then-w-lt2 : goal.returns-then-w-lt2
returns-then-w-lt2 c = no_step c.args.w refl refl c.if-w-lt2.true

pub one_step-requires : goal.one_step-requires
one_step-requires c = (
  c.gcd-d.ensures,
  omega (arith, c.gcd-d.ensures, divisor-pos c.args.w c.course_cells-m.ensures c.spread_of-s.ensures c.requires c.if-w-lt2.false),
  spread-high c.args.w c.course_cells-m.ensures c.spread_of-s.ensures c.requires c.if-w-lt2.false,
  cells-high c.args.w c.course_cells-m.ensures c.spread_of-s.ensures c.requires c.if-w-lt2.false,
)

pub returns-then-k-d : goal.returns-then-k-d
returns-then-k-d c =
    ap OneStep c.one_step.ensures
    ∙ one-step c.args.w c.course_cells-m.ensures c.spread_of-s.ensures c.if-w-lt2.false (omega (arith, c.gcd-d.ensures))

pub two_steps-pair-requires : goal.two_steps-pair-requires
two_steps-pair-requires c = searched c.args.w c.course_cells-m.ensures c.spread_of-s.ensures c.requires c.if-w-lt2.false (omega (arith, c.gcd-d.ensures))

pub returns : goal.returns
returns c =
    (λ i. TwoSteps (c.two_steps-pair.ensures.0 i) (c.two_steps-pair.ensures.1 i))
    ∙ two_steps c.args.w c.course_cells-m.ensures c.spread_of-s.ensures c.if-w-lt2.false (omega (arith, c.gcd-d.ensures))
