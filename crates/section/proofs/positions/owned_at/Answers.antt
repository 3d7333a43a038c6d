-- `owned_at` meets its contract.
use native.Mathlib.Omega.{arith}
use Rattle.std.proofs.lemmas.Grind.{common_steps}
use Rattle.model.specs.Ownership.{owner_of, owns}
use Rattle.section.specs.Strides.{cell_at, owned_at}
use Rattle.section.proofs.positions.owned_at.Goals as goal

pub returns : goal.returns
unfolding owned_at owns owner_of cell_at
returns c = grind (arith, common_steps)
