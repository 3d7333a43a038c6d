-- `owns_on` meets its contract: the parts of a position are positions of their dimensions.
use Rattle.model.proofs.PairLaws.{first-lt, second_lt}
use Rattle.grid_section.proofs.places.owns_on.Goals as goal

pub owns_at-requires : goal.owns_at-requires
owns_at-requires c = record { fitted = c.requires.0.first; below = first-lt _ _ _ c.requires.1 }

pub owns_at-requires-then-owns_at-2 : goal.owns_at-requires-then-owns_at-2
owns_at-requires-then-owns_at-2 c = record { fitted = c.requires.0.third; below = second_lt _ _ _ (second_lt _ _ _ c.requires.1) }
