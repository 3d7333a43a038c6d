-- `share_of` meets its contract: what passed question 8 is a processor of the layout.
use Rattle.mapping.proofs.Signs.{below-natural}
use Rattle.section.proofs.shares.share_of.Goals as goal

pub part_of-part-requires-clause-dealt : goal.part_of-part-requires-clause-dealt
part_of-part-requires-clause-dealt c = record { sized = c.requires.0.sized; processor = below-natural _ _ c.ranges.processor c.natural-q.ensures c.requires.2 }
