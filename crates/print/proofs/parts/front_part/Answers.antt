-- `front_part` meets its contract.
use native.Mathlib.Omega.{arith}
use Rattle.print.proofs.PartLaws.{front_fits, front-part-of}
use Rattle.print.proofs.parts.front_part.Goals as goal

pub line_front-requires : goal.line_front-requires
line_front-requires c =
    omega (
      arith,
      c.requires.1.front,
      front_fits c.args.x c.args.q c.requires.0 c.whole-rest.result c.whole-rest.ensures.1
          c.whole-rest.ensures.0 c.tries_of-tries.result c.tries_of-tries.ensures (omega (arith, c.ranges.q)),
    )

pub returns : goal.returns
returns c =
    let fits = front_fits c.args.x c.args.q c.requires.0 c.whole-rest.result c.whole-rest.ensures.1 c.whole-rest.ensures.0
    c.tries_of-tries.result c.tries_of-tries.ensures (omega (arith, c.ranges.q)) in
    front-part-of c.args.x c.args.q c.requires.0 c.whole-rest.result c.whole-rest.ensures.1 c.whole-rest.ensures.0
    c.tries_of-tries.result c.tries_of-tries.ensures c.line_front.ensures (omega (arith, c.requires.1.front))
