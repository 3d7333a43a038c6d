-- `addresses_from` meets its contract.
use lib.Dec.{lit≤}
use Rattle.grid_fill.proofs.ShareFills.{place-accepted}
use Rattle.grid_fill.proofs.steps.addresses_from.Goals as goal

pub fill_bytes_by-requires : goal.fill_bytes_by-requires
fill_bytes_by-requires c = (place-accepted c.args.s c.args.t.0 1000000 c.requires.0 (lit≤ tt) (lit≤ tt), c.requires.1)
