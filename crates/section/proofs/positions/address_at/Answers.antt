-- `address_at` meets its contract.
use Rattle.section.proofs.StridedLaws.{index-inside}
use Rattle.section.proofs.positions.address_at.Goals as goal

pub local_address-requires-clause-i_lt_size : goal.local_address-requires-clause-i_lt_size
local_address-requires-clause-i_lt_size c = rw c.index_at.ensures (index-inside c.args.w c.requires.bounded c.args.t.0 c.requires.below)
