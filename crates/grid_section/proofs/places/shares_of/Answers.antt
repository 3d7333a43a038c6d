-- `shares_of` meets its contract: the last coordinate is a processor of its dimension.
use Rattle.model.proofs.PairLaws.{second_lt}
use Rattle.grid_section.proofs.places.shares_of.Goals as goal

pub line_share-requires-3 : goal.line_share-requires-3
line_share-requires-3 c = (c.requires.0.third, c.requires.1.third, second_lt _ _ _ (second_lt _ _ _ c.requires.2))
