-- `next_turns` meets its contract.
use native.Mathlib.Omega.{arith}
use Rattle.walk.specs.Learning.{by-known, by-learning}
use Rattle.walk.proofs.columns.next_turns.Goals as goal

pub returns-then-columns-q-ne0 : goal.returns-then-columns-q-ne0
returns-then-columns-q-ne0 c = rw c.stop_at.ensures (by-known c.paid_turns-most.result c.paid_turns-most.ensures.2 (omega (arith, c.paid_turns-most.ensures.1, c.requires.2)) c.known_turns-made.ensures)

pub returns : goal.returns
returns c = rw (c.turn.ensures.0, c.put_entry.ensures) (by-learning c.turn.ensures.1)
