use Rattle.numbers.proofs.+first_hit.Given as goal
use Rattle.numbers.proofs.Depth.{depth}

abbrev pub decreases-first_hit : goal.decreases-first_hit
decreases-first_hit l = depth l.s l.m
