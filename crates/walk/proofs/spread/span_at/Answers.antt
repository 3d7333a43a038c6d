-- `span_at` meets its contract.
use native.Mathlib.Omega.{arith}
use Rattle.walk.proofs.SpreadLaws.{first-span, both_span, second-span}
use Rattle.walk.proofs.spread.span_at.Goals as goal

pub returns-then-q-last : goal.returns-then-q-last
returns-then-q-last c = first-span _ _ c.requires.0.up c.if-q-last.true

pub returns-then-q-m : goal.returns-then-q-m
returns-then-q-m c = both_span _ _ (omega (arith, c.requires.1)) c.requires.0.up c.if-q-last.false c.requires.0.down c.if-q-m.true

pub returns-then-last-m : goal.returns-then-last-m
returns-then-last-m c = second-span _ _ (omega (arith, c.requires.1)) c.requires.0.up c.if-q-last.false _ (omega (arith, c.if-last-m.true)) (omega arith) c.if-q-m.false c.requires.1

pub returns : goal.returns
returns c = second-span _ _ (omega (arith, c.requires.1)) c.requires.0.up c.if-q-last.false _ (omega arith) c.if-last-m.false c.if-q-last.false c.requires.1
