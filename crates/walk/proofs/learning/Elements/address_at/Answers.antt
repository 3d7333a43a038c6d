-- `address_at` meets its contract.
use Rattle.walk.specs.Learning.{address_at}
use Rattle.walk.proofs.learning.Elements.address_at.Goals as goal

pub returns : goal.returns
unfolding address_at
returns c = rw (c.local_address.ensures, c.element_at.ensures)
