-- `place_of` meets its contract: no position is past the last.
use Prim.Native.Nat.{ℕ, ◌+◌, ◌*◌, ◌≤◌, ◌<◌}
use native.Mathlib.Omega.{arith}
use borrow.Author.Tests.{lt-ltb, le-ltb}
use Rattle.model.specs.Axes.{axis_of}
use Rattle.model.specs.Grids.{sections_of}
use Rattle.model.proofs.PairLaws.{pair_lt}
use Rattle.model.proofs.GridAccepted.{first-yes, second-yes, third-yes}
use Rattle.grid_fill.proofs.RowPlaces.{counts}
use Rattle.grid_fill.proofs.PlanLaws.{counts-low}
use Rattle.grid_fill.proofs.TurnLaws.{small_product}
use Rattle.grid_fill.proofs.filling.place_of.Goals as goal
use Rattle.grid_fill.proofs.filling.place_of.Goals.{Then-at-o}

-- what is known of a position
abbrev m : (c : Then-at-o) → ℕ
m c =
    c.args.p.shares.first.section.count

abbrev n : (c : Then-at-o) → ℕ
n c =
    c.args.p.shares.second.section.count

low : (c : Then-at-o) → (c.args.at.first.0 < (m c)) × (c.args.at.second.0 < (n c)) × ((n c) * c.args.at.third.0 + c.args.at.second.0 < (n c) * c.args.p.shares.third.section.count)
    × ((m c) * (c.args.at.second.0 + (n c) * c.args.at.third.0) + c.args.at.first.0 < (m c) * ((n c) * c.args.p.shares.third.section.count))
    × ((n c) * c.args.p.shares.third.section.count ≤ 4611686014132420609) × ((m c) * ((n c) * c.args.p.shares.third.section.count) ≤ 2147483647)
low c =
    let cf = counts (sections_of c.requires.source).first (first-yes c.requires.source c.requires.planned.accepted) c.args.p.shares.first c.requires.planned.first in
    let cs = counts (sections_of c.requires.source).second (second-yes c.requires.source c.requires.planned.accepted) c.args.p.shares.second c.requires.planned.second in
    let ct = counts (sections_of c.requires.source).third (third-yes c.requires.source c.requires.planned.accepted) c.args.p.shares.third c.requires.planned.third in
    let v : c.args.at.third.0 < (axis_of (sections_of c.requires.source).third).count = omega (arith, c.if-at-o.true, ct) in
    let a : c.args.at.first.0 < m c = omega (arith, cf, (c.requires.stands.first v).0) in
    let b : c.args.at.second.0 < n c = omega (arith, cs, (c.requires.stands.second v).0) in
    let row = pair_lt (n c) c.args.p.shares.third.section.count c.args.at.second.0 c.args.at.third.0 b c.if-at-o.true in
    let all = pair_lt (m c) ((n c) * c.args.p.shares.third.section.count) c.args.at.first.0 (c.args.at.second.0 + (n c) * c.args.at.third.0) a row in
    let k = counts-low c.requires.source c.args.p c.requires.planned in
    (a, b, omega (arith, row), omega (arith, all), small_product (n c) c.args.p.shares.third.section.count k.0 k.1, k.2)

pub overflow_mul-result : goal.overflow_mul-result
overflow_mul-result c = let l = low (goal.at.overflow_mul-result c).Then-at-o in omega (arith, l.2, l.3, l.4)

pub overflow_add-result : goal.overflow_add-result
overflow_add-result c = let l = low (goal.at.overflow_add-result c).Then-at-o in omega (arith, l.2, l.4)

pub overflow_mul-result-then-at-o : goal.overflow_mul-result-then-at-o
overflow_mul-result-then-at-o c = let l = low (goal.at.overflow_mul-result-then-at-o c).Then-at-o in omega (arith, l.3, l.5)

pub overflow_add-result-then-at-o : goal.overflow_add-result-then-at-o
overflow_add-result-then-at-o c = let l = low (goal.at.overflow_add-result-then-at-o c).Then-at-o in omega (arith, l.3, l.5)

pub returns-then-at-o : goal.returns-then-at-o
returns-then-at-o c = rw (lt-ltb _ _ c.if-at-o.true)

pub product_of-requires : goal.product_of-requires
product_of-requires c = counts-low c.requires.source c.args.p c.requires.planned

pub returns : goal.returns
returns c = rw (le-ltb _ _ c.if-at-o.false) c.product_of.ensures
