-- `fill_bytes_by` meets its contract: by the way.
use mathlib.Core.Path.{subst}
use Rattle.fill.specs.declared.ways.Way.{Way}
use Rattle.fill.specs.declared.ways.Way.TheVariants.{Blocks}
use Rattle.fill.specs.Ready.{share_from}
use Rattle.fill.specs.Ways.{WayOf}
use Rattle.fill.proofs.DealtFills.{of_blocks}
use Rattle.fill.proofs.ways.fill_bytes_by.Goals as goal
use Rattle.fill.proofs.ways.fill_bytes_by.Goals.{In-Blocks, In-Run}

-- the way, in each of its cases
by-plan : (c : In-Blocks) → WayOf (share_from c.args.s) (Blocks c.in-Blocks.plan)
by-plan c = subst (λ (z : Way). WayOf (share_from c.args.s) z) c.in-Blocks.is c.requires.1

pub returns-in-Blocks : goal.returns-in-Blocks
returns-in-Blocks c = of_blocks c.args.s c.requires.0 (by-plan (goal.at.returns-in-Blocks c).In-Blocks).0 _ _ _ c.fill_planned_list.ensures
