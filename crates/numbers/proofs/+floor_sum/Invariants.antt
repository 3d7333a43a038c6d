use Rattle.numbers.proofs.+floor_sum.Given as goal
use Rattle.numbers.proofs.Depth.{depth}

abbrev pub decreases-floor_sum : goal.decreases-floor_sum
decreases-floor_sum l = depth l.m l.a
