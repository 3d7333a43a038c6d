-- `whole` meets its contract.
use Rattle.print.proofs.AheadLaws.{owner-bounded, whole-stands}
use Rattle.print.proofs.fills.whole.Goals as goal

pub place_of-requires : goal.place_of-requires
place_of-requires c = owner-bounded c.args.x c.args.q c.requires

pub elements_of-requires : goal.elements_of-requires
elements_of-requires c = owner-bounded c.args.x c.args.q c.requires

pub returns : goal.returns
returns c = whole-stands c.args.x c.args.q c.requires c.place_of.ensures c.elements_of.ensures
