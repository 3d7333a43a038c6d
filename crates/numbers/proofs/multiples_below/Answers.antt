-- `multiples_below` meets its contract.
use Rattle.std.proofs.Common.{rules}
use Rattle.numbers.specs.Multiples.{multiples_below}
use Rattle.numbers.proofs.multiples_below.Goals as goal

pub returns : goal.returns
unfolding multiples_below
returns c = search rules
