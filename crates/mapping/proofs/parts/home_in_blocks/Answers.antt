-- `home_in_blocks` meets its contract.
use mathlib.Core.Path.{ap, ◌∙◌}
use Rattle.model.specs.Ownership.{cell_owner, owner_of}
use Rattle.mapping.proofs.parts.home_in_blocks.Goals as goal

pub returns : goal.returns
unfolding owner_of
returns c = (c.owner_of.ensures ∙ ap (cell_owner c.args.l) c.cell_of.ensures, c.local_address.ensures)
