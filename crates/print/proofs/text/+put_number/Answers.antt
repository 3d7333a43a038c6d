-- `put_number` meets its contract. The measure is the number.
use native.Mathlib.Omega.{arith}
use Rattle.print.proofs.PutLaws.{put-length, some-digits, length_more, number-one, number_more}
use Rattle.print.proofs.text.+put_number.Goals as goal

pub put_byte-requires : goal.put_byte-requires
put_byte-requires t c = omega (arith, c.requires, some-digits c.args.n)

pub returns-then-n-lt10 : goal.returns-then-n-lt10
returns-then-n-lt10 t c = number-one _ (omega (arith, c.if-n-lt10.true)) c.put_byte.ensures

pub put_number-end-requires : goal.put_number-end-requires
put_number-end-requires t c = (omega (arith, c.decreases), omega (arith, c.requires, length_more c.args.n (omega (arith, c.if-n-lt10.false))))

pub put_byte-requires-2 : goal.put_byte-requires-2
put_byte-requires-2 t c = omega (arith, c.requires, c.put_number-end.ensures.ends, put-length c.put_number-end.ensures, length_more c.args.n (omega (arith, c.if-n-lt10.false)))

pub returns : goal.returns
returns t c = number_more _ (omega (arith, c.if-n-lt10.false)) c.put_number-end.ensures c.put_byte-2.ensures
