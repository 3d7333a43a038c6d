-- `next_turn` meets its contract: copies of a row that is known whole, or one row.
use native.Mathlib.Omega.{arith}
use lib.Dec.{lit≤}
use borrow.Author.Tests.{eqb-true}
use mathlib.Core.Path.{subst}
use Rattle.std.specs.Prelude.{Option}
use Rattle.grid_fill.specs.declared.turns.Whole.{Whole}
use Rattle.grid_fill.specs.Rows.{Known}
use Rattle.grid_fill.proofs.TurnLaws.{third-placed}
use Rattle.grid_fill.proofs.turns.next_turn.Goals as goal

pub step_from-plane-requires : goal.step_from-plane-requires
step_from-plane-requires c = (third-placed c.requires.begun, c.requires.begun.planned.third-way)

pub overflow_sub-room : goal.overflow_sub-room
overflow_sub-room c = omega (arith, c.requires.begun.room)

pub rows_again-count-requires : goal.rows_again-count-requires
rows_again-count-requires c = c.requires.begun.least

pub copy_turn-requires : goal.copy_turn-requires
copy_turn-requires c =
    let again = c.rows_again-count.ensures.2 c.if-count-gt0.true in
    let k = subst (λ (w : Option Whole). Known c.requires.begun.source c.args.p c.args.list.now c.args.n w) c.in-Some.is c.requires.known in record {
      begun = (record { source = c.requires.begun.source; planned = c.requires.begun.planned; stands = c.requires.begun.stands; going = c.requires.begun.going; least = lit≤ tt; most = lit≤ tt; room = c.requires.begun.room }, c.step_from-plane.ensures);
      copying = record {
        enters = eqb-true _ _ again.0;
        before = k.before;
        base = k.base;
        some = c.if-count-gt0.true;
        most = c.rows_again-count.ensures.0;
        entries = again.1;
        room = omega (arith, c.rows_again-count.ensures.1, c.requires.begun.room);
        tries = omega (arith, again.2, c.requires.begun.most);
      };
    }

pub returns-then-count-gt0 : goal.returns-then-count-gt0
returns-then-count-gt0 c x o st known =
    c.copy_turn.ensures x o st (subst (λ (w : Option Whole). Known x c.args.p c.args.list.now c.args.n w) c.in-Some.is known) c.args.quota
    (c.rows_again-count.ensures.2 c.if-count-gt0.true).2

pub row_turn-requires : goal.row_turn-requires
row_turn-requires c = (c.requires.begun, c.step_from-plane.ensures)

pub returns : goal.returns
returns c x o st known = c.row_turn.ensures x o st
