-- `fill_part` meets its contract: the loop that the plan names gives the fill along the section's walk.
use mathlib.Core.Path.{subst}
use Rattle.fill.specs.declared.plan.Plan.TheVariants.{Constant, Learnt}
use Rattle.fill.specs.declared.plan.Plan.{Plan}
use Rattle.fill.specs.Starting.{Planned, InBlocks}
use Rattle.fill.proofs.StartLaws.{constant-starts, learnt-begins, bytes-constant, bytes-learnt}
use Rattle.fill.proofs.long.fill_part.Goals as goal
use Rattle.fill.proofs.long.fill_part.Goals.{In-Constant, In-Learnt}

-- the plan, in each of its cases
constant : (c : In-Constant) → InBlocks c.args.s × Planned c.args.s.section c.args.s.processor (Constant c.in-Constant.m)
constant c = subst (λ (z : Plan). InBlocks c.args.s × Planned c.args.s.section c.args.s.processor z) c.in-Constant.is c.requires

learnt : (c : In-Learnt) → InBlocks c.args.s × Planned c.args.s.section c.args.s.processor (Learnt c.in-Learnt.m)
learnt c = subst (λ (z : Plan). InBlocks c.args.s × Planned c.args.s.section c.args.s.processor z) c.in-Learnt.is c.requires

pub fill_bytes-requires : goal.fill_bytes-requires
fill_bytes-requires c = constant-starts c.args.s c.requires.0 c.state_at-state.result c.state_at-state.ensures _ (constant (goal.at.fill_bytes-requires c).In-Constant).1

pub fill_long_learning-requires : goal.fill_long_learning-requires
fill_long_learning-requires c =
    rw c.task_of.ensures (learnt-begins c.args.s c.requires.0 c.state_at-state.result c.state_at-state.ensures _ (learnt (goal.at.fill_long_learning-requires c).In-Learnt).1)

pub returns-in-Constant : goal.returns-in-Constant
returns-in-Constant c = bytes-constant c.args.s c.requires.0 c.state_at-state.result c.state_at-state.ensures _ _ _ c.fill_bytes.result (constant (goal.at.returns-in-Constant c).In-Constant).1 c.fill_bytes.ensures

pub returns-in-Learnt : goal.returns-in-Learnt
returns-in-Learnt c = bytes-learnt c.args.s c.requires.0 c.state_at-state.result c.state_at-state.ensures _ _ _ c.fill_long_learning.result (learnt (goal.at.returns-in-Learnt c).In-Learnt).1 _ c.task_of.ensures c.fill_long_learning.ensures
