-- `cell_of` meets its contract: the cell of an element, or of the place after the last, fits. Assumes nothing.
use mathlib.Core.Path.{refl}
use Rattle.model.specs.Ownership.{cell_of}
use Rattle.mapping.proofs.dealing.cell_of.Goals as goal

pub returns : goal.returns
unfolding cell_of
returns c = refl
