use Rattle.numbers.proofs.+gcd.Given as goal
use Rattle.numbers.proofs.Depth.{depth}

abbrev pub decreases-gcd : goal.decreases-gcd
decreases-gcd l = depth l.b l.a
