-- `fill_turns` meets its contract: each turn goes on where the one before it ended.
use Prim.Native.Nat.{◌-◌}
use mathlib.Core.Path.{refl, ap, ◌∙◌}
use native.Mathlib.Omega.{arith}
use lib.ListN.{length}
use Rattle.model.proofs.ByteStores.{stores-length}
use Rattle.grid_fill.specs.Rows.{Turned}
use Rattle.grid_fill.proofs.FillingLaws.{Filling, filling-starts, filling-turns, ends-full, ends-count, ends-quota}
use Rattle.grid_fill.proofs.filling.fill_turns.Goals as goal
use Rattle.grid_fill.proofs.filling.fill_turns.Goals.{After-next_turn-t, Else-quota-paid-lt-LEAST_TRIES}

pub loop-n-init : goal.loop-n-init
loop-n-init c = (omega arith, refl, omega arith, λ x o st. filling-starts x c.args.p o c.args.start c.args.quota c.args.list.now st)

pub overflow_sub-quota : goal.overflow_sub-quota
overflow_sub-quota c = c.loop-n.invariant.2

pub overflow_sub-quota-in-loop-n : goal.overflow_sub-quota-in-loop-n
overflow_sub-quota-in-loop-n c = c.loop-n.invariant.2

-- ---- a turn
-- where the fill stands, of the section that it is one of
here : (c : Else-quota-paid-lt-LEAST_TRIES) → Filling c.requires.source c.args.p c.args.start c.args.quota c.args.list.now c.loop-n.list c.loop-n.at c.loop-n.whole c.loop-n.paid c.loop-n.n
here c =
    c.loop-n.invariant.3 c.requires.source c.requires.planned c.requires.stands

pub next_turn-t-requires : goal.next_turn-t-requires
next_turn-t-requires c =
    record {
      begun = record {
        source = c.requires.source;
        planned = c.requires.planned;
        stands = (here (goal.at.next_turn-t-requires c).Else-quota-paid-lt-LEAST_TRIES).stands;
        going = omega (arith, c.if-count-at.false);
        least = c.if-quota-paid-lt-LEAST_TRIES.false;
        most = omega (arith, c.requires.most);
        room = omega (arith, c.loop-n-test.true, c.loop-n.invariant.1);
      };
      known = (here (goal.at.next_turn-t-requires c).Else-quota-paid-lt-LEAST_TRIES).known;
    }

-- what the turn gives
turned : (c : After-next_turn-t) → Turned c.requires.source c.args.p c.loop-n.at (c.args.quota - c.loop-n.paid) c.loop-n.n c.loop-n.list c.next_turn-t.new.list c.next_turn-t.result
turned c =
    c.next_turn-t.ensures c.requires.source c.requires.planned ((c.loop-n.invariant.3 c.requires.source c.requires.planned c.requires.stands)).stands ((c.loop-n.invariant.3 c.requires.source c.requires.planned c.requires.stands)).known

pub overflow_add-paid : goal.overflow_add-paid
overflow_add-paid c = omega (arith, (turned (goal.at.overflow_add-paid c).After-next_turn-t).tries, c.loop-n.invariant.2, c.requires.most)

pub overflow_add-n : goal.overflow_add-n
overflow_add-n c = omega (arith, (turned (goal.at.overflow_add-n c).After-next_turn-t).room, c.loop-n.invariant.1)

pub loop-n-smaller : goal.loop-n-smaller
loop-n-smaller c = omega (arith, (turned (goal.at.loop-n-smaller c).After-next_turn-t).some, (turned (goal.at.loop-n-smaller c).After-next_turn-t).room, c.loop-n.invariant.1)

pub loop-n-preserved : goal.loop-n-preserved
loop-n-preserved c = (
  omega (arith, (turned (goal.at.loop-n-preserved c).After-next_turn-t).room, c.loop-n.invariant.1),
  ap length (turned (goal.at.loop-n-preserved c).After-next_turn-t).stored ∙ stores-length c.loop-n.list c.loop-n.n _ ∙ c.loop-n.invariant.1,
  omega (arith, (turned (goal.at.loop-n-preserved c).After-next_turn-t).tries, c.loop-n.invariant.2),
  λ x o st.
      let f = c.loop-n.invariant.3 x o st in
      filling-turns x c.args.p o c.args.start c.args.quota c.args.list.now f (omega (arith, c.loop-n.invariant.0, c.loop-n.invariant.1)) _ _
      (c.next_turn-t.ensures x o f.stands f.known),
)

pub shape_of-list-after-loop-n : goal.shape_of-list-after-loop-n
shape_of-list-after-loop-n c = c.loop-n.invariant.1

pub returns-after-loop-n : goal.returns-after-loop-n
returns-after-loop-n c x o st =
    let f = c.loop-n.invariant.3 x o st in
    (f.stands, ends-full x c.args.p o c.args.start c.args.quota c.args.list.now f _ refl refl refl (omega (arith, c.loop-n-test.false, c.loop-n.invariant.1)))

pub shape_of-list-then-count-at : goal.shape_of-list-then-count-at
shape_of-list-then-count-at c = c.loop-n.invariant.1

pub returns-then-count-at : goal.returns-then-count-at
returns-then-count-at c x o st =
    let f = c.loop-n.invariant.3 x o st in
    (f.stands, ends-count x c.args.p o c.args.start c.args.quota c.args.list.now f _ refl refl refl c.if-count-at.true)

pub shape_of-list-then-quota-paid-lt-LEAST_TRIES : goal.shape_of-list-then-quota-paid-lt-LEAST_TRIES
shape_of-list-then-quota-paid-lt-LEAST_TRIES c = c.loop-n.invariant.1

pub returns-then-quota-paid-lt-LEAST_TRIES : goal.returns-then-quota-paid-lt-LEAST_TRIES
returns-then-quota-paid-lt-LEAST_TRIES c x o st =
    let f = c.loop-n.invariant.3 x o st in
    (f.stands, ends-quota x c.args.p o c.args.start c.args.quota c.args.list.now f _ refl refl refl c.if-quota-paid-lt-LEAST_TRIES.true)
