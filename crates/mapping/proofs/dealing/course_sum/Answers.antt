-- `course_sum` meets its contract: the floor sum over the elements' cells is within its bounds. Assumes nothing.
use Rattle.mapping.proofs.CourseSums.{sum-bounds}
use Rattle.mapping.proofs.dealing.course_sum.Goals as goal

pub floor_sum-requires : goal.floor_sum-requires
floor_sum-requires c = sum-bounds _ _ _ c.requires
