-- `fill_periods` meets its contract.
use Prim.Native.Nat.{◌+◌, ◌-◌, ◌*◌, ◌%◌}
use mathlib.Core.Path.{◌≡◌, refl}
use mathlib.Core.List.{◌++◌}
use native.Mathlib.Nat.{mod-lt}
use native.Mathlib.Omega.{arith}
use lib.ListN.{length, drop}
use Rattle.fill.specs.Long.{Returned}
use Rattle.fill.proofs.LongLaws.{plan-small, column-low, address-fits, long_same, long-ends, long-over, long-passes}
use Rattle.fill.proofs.long.fill_periods.Goals as goal
use Rattle.fill.proofs.long.fill_periods.Goals.{Then-has_returned}

-- the list is as long as it was
same_size : (c : Then-has_returned) → length (c.fill_part-first.new.list ++ drop (4 * c.args.e) c.args.list.now) ≡ length c.args.list.now
same_size c = long_same c.args.s c.args.plan c.requires.0.blocks c.requires.0.planned c.requires.0.below c.requires.0.blocks.taken.source c.requires.0.blocks.taken.accepted c.requires.0.blocks.taken.same _ _ _ c.requires.2 _ c.fill_part-first.ensures

-- the column has come back
found : (c : Then-has_returned) → Returned c.args.s c.args.column c.args.e c.fill_part-first.result
found c = c.has_returned.ensures c.if-has_returned.true

pub returns-then-w-u : goal.returns-then-w-u
returns-then-w-u c =
    λ x ok same.
    long-ends c.args.s c.args.plan c.requires.0.blocks c.requires.0.planned c.requires.0.below x ok same _ _ _ c.requires.2 _ c.fill_part-first.ensures c.if-w-u.true

pub overflow_add-add : goal.overflow_add-add
overflow_add-add c = omega (arith, c.address_at.ensures, address-fits c.args.s.section c.requires.0.blocks.started.section-bounded _ c.if-w-u.false)

pub pass_periods-requires : goal.pass_periods-requires
pass_periods-requires c =
    let r = found (goal.at.pass_periods-requires c).Then-has_returned in
    let small = plan-small c.args.s c.requires.0.blocks c.args.plan c.requires.0.planned in
    rw c.moves_of.ensures (record {
      small = small.0;
      column = rw c.requires.0.column (column-low c.args.s c.requires.0.blocks c.args.plan c.requires.0.planned _);
      count_low = omega (arith, c.requires.0.blocks.started.section-bounded.count-high);
      quota-low = omega (arith, c.requires.0.blocks.started.most);
      entries = c.requires.1;
      places = omega (arith, r.later);
      some = r.some;
      far = omega (arith, r.later, c.if-w-u.false);
      tries = r.tries;
      room = rw (same_size (goal.at.pass_periods-requires c).Then-has_returned) c.requires.2;
      add = mod-lt _ (omega arith);
    })

pub returns-then-has_returned : goal.returns-then-has_returned
returns-then-has_returned c =
    λ x ok same.
    long-passes c.args.s c.args.plan c.requires.0.blocks c.requires.0.planned c.requires.0.below x ok same _ _ _ c.requires.2 _ c.fill_part-first.ensures
    _ c.requires.0.column c.requires.1 (found (goal.at.returns-then-has_returned c).Then-has_returned) c.if-w-u.false
    (record {
      column = c.args.column;
      entries = c.args.e;
      places = c.fill_part-first.result.place.0 - c.args.s.place.0;
      tries = c.fill_part-first.result.tries;
      add = (c.address_at.result.0 + (4294967296 - c.word_at.result)) % 4294967296;
    })
    refl refl refl refl (λ i. (c.address_at.ensures i + (4294967296 - c.word_at.ensures i)) % 4294967296)
    (rw (← c.moves_of.ensures) c.pass_periods.ensures)

pub returns : goal.returns
returns c =
    λ x ok same.
    long-over c.args.s c.args.plan c.requires.0.blocks c.requires.0.planned c.requires.0.below x ok same _ _ _ c.requires.2 _ c.fill_part-first.ensures c.fill_part.ensures
