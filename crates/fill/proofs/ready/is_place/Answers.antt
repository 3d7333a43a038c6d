-- `is_place` meets its contract: its tests are those of question 10.
use Prim.Native.Nat.{ℕ}
use mathlib.Core.Path.{◌≡◌}
use mathlib.Core.Bool.{true, ◌&&◌, ◌||◌}
use borrow.Author.Tests.{eq-eqb, ne_eqb, lt-ltb, le-ltb}
use lib.Dec.{ltb, eqb}
use lib.IntN.{ℤ, pos}
use lib.Signed.{le_z}
use mir.Syntax.{w64}
use mir.ValLaws.{to_z-of_z}
use Rattle.numbers.proofs.Signed.{read_of}
use Rattle.model.specs.Ownership.{nat}
use Rattle.section.specs.declared.shares.Share.{Share}
use Rattle.section.specs.Shares.{owned_by}
use Rattle.fill.specs.Ready.{is_place_in}
use Rattle.fill.proofs.ready.is_place.Goals as goal
use Rattle.fill.proofs.ready.is_place.Goals.{After-natural-t}

-- of a number from 0 on
from_zero : (s : Share) (p : ℤ) (t : ℕ) → le_z (pos 0) p ≡ true → t ≡ nat p
    → is_place_in s p ≡ (eqb t s.section.count || (ltb t s.section.count && owned_by s t))
unfolding is_place_in
from_zero s p t h e = rw (h, e)

position : (c : After-natural-t) → c.natural-t.result ≡ nat c.args.place
position c = read_of w64 nat c.args.place c.ranges.place c.natural-t.ensures

pub returns-then-t-count : goal.returns-then-t-count
returns-then-t-count c =
    let h = rw (to_z-of_z w64 c.args.place c.ranges.place) at c.if-place-ge0.true in
    rw (from_zero c.args.s c.args.place c.natural-t.result h (position (goal.at.returns-then-t-count c).After-natural-t), eq-eqb c.natural-t.result c.args.s.section.count c.if-t-count.true)

pub returns-then-t-count-2 : goal.returns-then-t-count-2
returns-then-t-count-2 c =
    let h = rw (to_z-of_z w64 c.args.place c.ranges.place) at c.if-place-ge0.true in
    rw (
      from_zero c.args.s c.args.place c.natural-t.result h (position (goal.at.returns-then-t-count-2 c).After-natural-t),
      ne_eqb c.natural-t.result c.args.s.section.count c.if-t-count.false,
      lt-ltb c.natural-t.result c.args.s.section.count c.if-t-count-2.true,
    )
    c.owns_at.ensures

pub returns-else-t-count-2 : goal.returns-else-t-count-2
returns-else-t-count-2 c =
    let h = rw (to_z-of_z w64 c.args.place c.ranges.place) at c.if-place-ge0.true in
    rw (
      from_zero c.args.s c.args.place c.natural-t.result h (position (goal.at.returns-else-t-count-2 c).After-natural-t),
      ne_eqb c.natural-t.result c.args.s.section.count c.if-t-count.false,
      le-ltb c.natural-t.result c.args.s.section.count c.if-t-count-2.false,
    )

pub returns-else-place-ge0 : goal.returns-else-place-ge0
unfolding is_place_in
returns-else-place-ge0 c =
    let h = rw (to_z-of_z w64 c.args.place c.ranges.place) at c.if-place-ge0.false in
    rw (to_z-of_z w64 c.args.place c.ranges.place, h)
