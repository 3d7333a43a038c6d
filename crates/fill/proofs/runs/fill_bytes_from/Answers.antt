-- `fill_bytes_from` meets its contract: by the extent of the share.
use Rattle.fill.proofs.DealtFills.{of_blocks}
use Rattle.fill.proofs.runs.fill_bytes_from.Goals as goal

pub returns-in-Blocks : goal.returns-in-Blocks
returns-in-Blocks c = of_blocks c.args.s c.requires c.in-Blocks.is _ _ _ c.fill_list.ensures
