-- `stand_at` meets its contract: a position's parts, or the end.
use Prim.Native.Nat.{ℕ, ◌/◌, ◌<◌}
use native.Mathlib.Omega.{arith}
use Rattle.model.proofs.PairLaws.{first-lt, second_lt}
use Rattle.grid_section.specs.Shares.{positions_in}
use Rattle.grid_fill.specs.declared.rows.RowPlan.{RowPlan}
use Rattle.grid_fill.proofs.PlanLaws.{counts-low, stands-inside, stands-end}
use Rattle.grid_fill.proofs.plans.stand_at.Goals as goal
use Rattle.grid_fill.proofs.plans.stand_at.Goals.{Then-place-product_of}

pub product_of-requires : goal.product_of-requires
product_of-requires c = counts-low c.requires.source c.args.p c.requires.planned

-- a position
abbrev p : (c : Then-place-product_of) → RowPlan
p c =
    c.args.p

abbrev t : (c : Then-place-product_of) → ℕ
t c =
    c.args.place.0

abbrev m : (c : Then-place-product_of) → ℕ
m c =
    (p c).shares.first.section.count

abbrev n : (c : Then-place-product_of) → ℕ
n c =
    (p c).shares.second.section.count

inside : (c : Then-place-product_of) → (t c) < positions_in ((p c).shares)
inside c =
    omega (arith, c.if-place-product_of.true, c.product_of.ensures)

first_some : (c : Then-place-product_of) → 0 < (m c)
first_some c =
    omega (arith, first-lt (m c) _ (t c) (inside c))

second-some : (c : Then-place-product_of) → 0 < (n c)
second-some c =
    omega (arith, first-lt (n c) _ ((t c) / (m c)) (second_lt (m c) _ (t c) (inside c)))

pub nonzero_div-row : goal.nonzero_div-row
nonzero_div-row c = first_some (goal.at.nonzero_div-row c).Then-place-product_of

pub nonzero_rem-t : goal.nonzero_rem-t
nonzero_rem-t c = first_some (goal.at.nonzero_rem-t c).Then-place-product_of

pub nonzero_rem-u : goal.nonzero_rem-u
nonzero_rem-u c = second-some (goal.at.nonzero_rem-u c).Then-place-product_of

pub nonzero_div-v : goal.nonzero_div-v
nonzero_div-v c = second-some (goal.at.nonzero_div-v c).Then-place-product_of

pub returns-then-place-product_of : goal.returns-then-place-product_of
returns-then-place-product_of c x o = stands-inside x (p (goal.at.returns-then-place-product_of c).Then-place-product_of) o (t (goal.at.returns-then-place-product_of c).Then-place-product_of) c.requires.place (inside (goal.at.returns-then-place-product_of c).Then-place-product_of)

pub returns : goal.returns
returns c x o = stands-end x c.args.p o c.args.place.0 c.requires.place (omega (arith, c.if-place-product_of.false, c.product_of.ensures))
