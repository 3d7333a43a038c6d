-- `owner_of` meets its contract. Assumes nothing.
use mathlib.Core.Path.{refl}
use Rattle.model.specs.Ownership.{cell_owner}
use Rattle.mapping.proofs.dealing.owner_of.Goals as goal

pub returns : goal.returns
unfolding cell_owner
returns c = refl
