-- `addresses_part` meets its contract.
use native.Mathlib.Omega.{arith}
use native.Mathlib.Nat.{pos_of_ne-zero}
use Rattle.print.proofs.AheadLaws.{owner-bounded}
use Rattle.print.proofs.PartLaws.{newline-part-of, addresses-part-of}
use Rattle.print.proofs.parts.addresses_part.Goals as goal

pub overflow_add-q : goal.overflow_add-q
overflow_add-q c =
    let b = owner-bounded c.args.x c.args.q c.requires.0 in
    omega (arith, b.1, b.0.sized.processors-high)

pub returns-then-rest-eq0 : goal.returns-then-rest-eq0
returns-then-rest-eq0 c =
    newline-part-of c.args.x c.args.q c.requires.0 c.args.rest c.requires.1 c.if-rest-eq0.true c.put_byte.ensures
    (omega (arith, c.requires.2.front)) c.line_or_done.ensures.0 c.line_or_done.ensures.1

pub returns : goal.returns
returns c =
    addresses-part-of c.args.x c.args.q c.requires.0 c.args.rest c.requires.1 (pos_of_ne-zero c.if-rest-eq0.false) c.requires.2.some
    c.fill_on-g.ensures c.addresses.ensures.1 (omega (arith, c.addresses.ensures.0, c.fill_on-g.ensures.few, c.fill_on-g.ensures.same, c.requires.2.entries))
