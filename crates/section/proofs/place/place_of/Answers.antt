-- `place_of` meets its contract: what it works out, and the law of the direction that it goes.
use Prim.Native.Nat.{◌+◌, ◌*◌, ◌%◌, ◌≤◌, ◌<◌}
use mathlib.Core.Path.{ap, ◌∙◌}
use native.Mathlib.Nat.{mod-lt}
use native.Mathlib.Omega.{arith}
use Rattle.section.specs.Places.{found_below}
use Rattle.section.proofs.StridedLaws.{course-some}
use Rattle.section.proofs.PlaceLaws.{Worked, m-pos, room, block_in_lem, place_none, place_up, place_down}
use Rattle.section.proofs.place.place_of.Goals as goal
use Rattle.section.proofs.place.place_of.Goals.{After-spread_of}

pub returns-then-w-eq0 : goal.returns-then-w-eq0
returns-then-w-eq0 c = place_none c.args.w c.args.q c.if-w-eq0.true

pub nonzero_rem-c : goal.nonzero_rem-c
nonzero_rem-c c = omega (arith, c.course_cells-m.ensures, course-some c.args.w.layout c.requires.0.sized)

-- what is worked out before the search
worked : (c : After-spread_of) → Worked c.args.w c.course_cells-m.result c.cell_of.result.0 c.spread_of.result
worked c = record { course = c.course_cells-m.ensures; first = c.cell_of.ensures; spread = c.spread_of.ensures }

some : (c : After-spread_of) → 0 < c.course_cells-m.result
some c = m-pos (worked c) c.requires.0

block_room : (c : After-spread_of) → c.args.q * c.args.w.layout.block + c.args.w.layout.block ≤ c.course_cells-m.result
block_room c = room (worked c) c.requires.0 c.args.q c.requires.1

column-low : (c : After-spread_of) → c.cell_of.result.0 % c.course_cells-m.result < c.course_cells-m.result
column-low c = mod-lt c.cell_of.result.0 (some c)

pub nonzero_rem-s : goal.nonzero_rem-s
nonzero_rem-s c = some (goal.at.nonzero_rem-s c).After-spread_of

pub first_owned-requires : goal.first_owned-requires
first_owned-requires c =
    let g = (goal.at.first_owned-requires c).After-spread_of in
    block_in_lem (worked g) c.requires.0 (column-low g) (block_room g)

pub returns-then-w : goal.returns-then-w
returns-then-w c =
    let g = (goal.at.returns-then-w c).After-spread_of in
    c.found_below.ensures ∙ ap (found_below c.args.w.count) c.first_owned.ensures
    ∙ place_up (worked g) c.requires.0 c.args.q c.requires.1 c.if-w.true

pub overflow_sub-column : goal.overflow_sub-column
overflow_sub-column c = some (goal.at.overflow_sub-column c).After-spread_of

pub overflow_sub-column-2 : goal.overflow_sub-column-2
overflow_sub-column-2 c = omega (arith, column-low (goal.at.overflow_sub-column-2 c).After-spread_of)

pub overflow_sub-block : goal.overflow_sub-block
overflow_sub-block c = block_room (goal.at.overflow_sub-block c).After-spread_of

pub first_owned-requires-2 : goal.first_owned-requires-2
first_owned-requires-2 c =
    let g = (goal.at.first_owned-requires-2 c).After-spread_of in
    block_in_lem (worked g) c.requires.0 (omega (arith, column-low g, some g)) (omega (arith, block_room g))

pub returns : goal.returns
returns c =
    let g = (goal.at.returns c).After-spread_of in
    c.found_below-2.ensures ∙ ap (found_below c.args.w.count) c.first_owned-2.ensures
    ∙ place_down (worked g) c.requires.0 c.args.q c.requires.1 c.if-w.false
