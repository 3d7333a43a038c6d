-- `fill_rows` meets its contract.
use mathlib.Core.Path.{◌∙◌}
use Rattle.grid_fill.proofs.filling.fill_rows.Goals as goal

pub place_of-requires : goal.place_of-requires
place_of-requires c = record { source = c.requires.source; planned = c.requires.planned; stands = (c.fill_turns-ended.ensures c.requires.source c.requires.planned c.requires.stands).0 }

pub returns : goal.returns
returns c x o st =
    let b = (c.fill_turns-ended.ensures x o st).1 in
    record { entries = b.entries; tries = b.tries; place = c.place_of.ensures ∙ b.place; bytes = b.bytes }
