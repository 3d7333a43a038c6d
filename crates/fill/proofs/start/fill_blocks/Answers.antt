-- `fill_blocks` meets its contract: the loop that the plan names gives the fill along the section's walk.
use mathlib.Core.Path.{subst}
use Rattle.fill.specs.declared.plan.Plan.TheVariants.{Constant, Learnt}
use Rattle.fill.specs.Starting.{Planned}
use Rattle.fill.proofs.StartLaws.{constant-starts, learnt-begins, bytes-constant, bytes-learnt}
use Rattle.fill.proofs.start.fill_blocks.Goals as goal
use Rattle.fill.proofs.start.fill_blocks.Goals.{In-Constant, In-Learnt}

-- the plan, in each of its cases
constant : (c : In-Constant) → Planned c.args.s.section c.args.s.processor (Constant c.in-Constant.m)
constant c = subst (Planned c.args.s.section c.args.s.processor) c.in-Constant.is c.plan_of.ensures

learnt : (c : In-Learnt) → Planned c.args.s.section c.args.s.processor (Learnt c.in-Learnt.m)
learnt c = subst (Planned c.args.s.section c.args.s.processor) c.in-Learnt.is c.plan_of.ensures

pub fill_bytes-requires : goal.fill_bytes-requires
fill_bytes-requires c = constant-starts c.args.s c.requires c.state_at-state.result c.state_at-state.ensures _ (constant (goal.at.fill_bytes-requires c).In-Constant)

pub fill_bytes_learning-requires : goal.fill_bytes_learning-requires
fill_bytes_learning-requires c =
    rw c.task_of.ensures (learnt-begins c.args.s c.requires c.state_at-state.result c.state_at-state.ensures _ (learnt (goal.at.fill_bytes_learning-requires c).In-Learnt))

pub returns-in-Constant : goal.returns-in-Constant
returns-in-Constant c = bytes-constant c.args.s c.requires c.state_at-state.result c.state_at-state.ensures _ _ _ c.fill_bytes.result (constant (goal.at.returns-in-Constant c).In-Constant) c.fill_bytes.ensures

pub returns-in-Learnt : goal.returns-in-Learnt
returns-in-Learnt c = bytes-learnt c.args.s c.requires c.state_at-state.result c.state_at-state.ensures _ _ _ c.fill_bytes_learning.result (learnt (goal.at.returns-in-Learnt c).In-Learnt) _ c.task_of.ensures c.fill_bytes_learning.ensures
