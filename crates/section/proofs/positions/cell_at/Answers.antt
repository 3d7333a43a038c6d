-- `cell_at` meets its contract.
use native.Mathlib.Nat.{le_of_lt}
use native.Mathlib.Omega.{arith}
use Rattle.std.proofs.lemmas.Grind.{common_steps}
use Rattle.section.specs.Strides.{cell_at}
use Rattle.section.proofs.StridedLaws.{index-inside}
use Rattle.section.proofs.positions.cell_at.Goals as goal

pub cell_of-requires-clause-i_le_size : goal.cell_of-requires-clause-i_le_size
cell_of-requires-clause-i_le_size c = rw c.index_at.ensures (le_of_lt (index-inside c.args.w c.requires.bounded c.args.t.0 c.requires.below))

pub returns : goal.returns
unfolding cell_at
returns c = grind (arith, common_steps)
