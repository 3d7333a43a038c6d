-- `row_turn` meets its contract: the row's base, and the fill of the row in what is left of the list.
use Prim.Native.Nat.{ℕ, ◌+◌, ◌-◌, ◌*◌, ◌≤◌, ◌<◌}
use mathlib.Core.Path.{◌≡◌, sym, ap, ◌∙◌, subst}
use mathlib.Core.List.{List, [], ◌++◌, append-nil}
use native.Mathlib.Omega.{arith}
use lib.ListN.{length, take, drop, length-drop, drop_of_length-le}
use lib.Seq.{take_all}
use Rattle.numbers.specs.Words.{words_of}
use Rattle.model.specs.Filling.{on_base, fill_by}
use Rattle.model.specs.Axes.{axis_of, walk_on}
use Rattle.model.specs.Grids.{GridSection, sections_of}
use Rattle.model.proofs.GridAccepted.{first-yes, second-yes, third-yes}
use Rattle.walk.specs.Driving.{ByteFilled}
use Rattle.grid_fill.specs.Rows.{PlanOf, Standing, Turned}
use Rattle.grid_fill.specs.Turns.{turn_after, Begun}
use Rattle.grid_fill.proofs.TurnLaws.{going-in, first-placed, second-placed, height_of, height-low, row-turned, small_product, step-low, base-is}
use Rattle.grid_fill.proofs.turns.row_turn.Goals as goal
use Rattle.grid_fill.proofs.turns.row_turn.Goals.{After-step_from-row}

pub step_from-row-requires : goal.step_from-row-requires
step_from-row-requires c = (second-placed c.requires.0, c.requires.0.planned.second_way)

-- the numbers of the row's base
abbrev begun : (c : After-step_from-row) → Begun c.args.p c.args.at (length c.args.list.now) c.args.quota c.args.n
begun c =
    c.requires.0

abbrev base : (c : After-step_from-row) → ℕ
base c =
    c.args.p.elements * (c.step_from-row.result.address.0 + c.args.p.rows * c.args.plane.address.0)

is : (c : After-step_from-row) → (x : GridSection) (o : PlanOf c.args.p x) (st : Standing x c.args.p c.args.at) → (base c) ≡ height_of x c.args.p o c.args.at st (going-in (begun c) x o)
is c x o st =
    base-is x c.args.p o c.args.at st (going-in (begun c) x o) c.step_from-row.result c.args.plane c.step_from-row.ensures c.requires.1

low : (c : After-step_from-row) → (base c) < 2147483648
low c =
    let b = (begun c) in
    omega (arith, (is c) b.source b.planned b.stands, height-low b.source c.args.p b.planned c.args.at b.stands (going-in b b.source b.planned))

addresses : (c : After-step_from-row) → (c.step_from-row.result.address.0 ≤ 2147483647) × (c.args.plane.address.0 ≤ 2147483647)
addresses c =
    let b = (begun c) in
    let x = b.source in
    let o = b.planned in (
      step-low (sections_of x).second (second-yes x o.accepted) c.args.p.shares.second o.second c.args.at.second.0 (b.stands.second (going-in b x o)) c.step_from-row.result c.step_from-row.ensures,
      step-low (sections_of x).third (third-yes x o.accepted) c.args.p.shares.third o.third c.args.at.third.0 (b.stands.third (going-in b x o)) c.args.plane c.requires.1,
    )

product : (c : After-step_from-row) → c.args.p.rows * c.args.plane.address.0 ≤ 4611686014132420609
product c =
    small_product c.args.p.rows c.args.plane.address.0 (begun c).planned.few (addresses c).1

pub overflow_mul-base : goal.overflow_mul-base
overflow_mul-base c = omega (arith, product (goal.at.overflow_mul-base c).After-step_from-row)

pub overflow_add-base : goal.overflow_add-base
overflow_add-base c = omega (arith, product (goal.at.overflow_add-base c).After-step_from-row, (addresses (goal.at.overflow_add-base c).After-step_from-row).0)

pub overflow_mul-base-2 : goal.overflow_mul-base-2
overflow_mul-base-2 c = omega (arith, low (goal.at.overflow_mul-base-2 c).After-step_from-row)

room : (c : After-step_from-row) → 4 * c.args.n ≤ length c.args.list.now
room c = omega (arith, (begun c).room)

pub overflow_mul-from : goal.overflow_mul-from
overflow_mul-from c = omega (arith, room (goal.at.overflow_mul-from c).After-step_from-row)

pub slice_bounds-fill_row-count : goal.slice_bounds-fill_row-count
slice_bounds-fill_row-count c = room (goal.at.slice_bounds-fill_row-count c).After-step_from-row

pub slice_bounds-fill_row-start : goal.slice_bounds-fill_row-start
slice_bounds-fill_row-start c = room (goal.at.slice_bounds-fill_row-start c).After-step_from-row

pub fill_row-r-requires : goal.fill_row-r-requires
fill_row-r-requires c =
    let b = begun (goal.at.fill_row-r-requires c).After-step_from-row in
    record { placed = (first-placed b, b.planned.first_way); le_quota = (b.least, b.most, low (goal.at.fill_row-r-requires c).After-step_from-row) }

pub returns : goal.returns
returns c x o st =
    let b = begun (goal.at.returns c).After-step_from-row in
    let v = going-in b x o in
    let e = is (goal.at.returns c).After-step_from-row x o st in
    let next : ℕ = c.step_from-row.result.next.0 in
    let up : ℕ = c.args.plane.next.0 in
    let l : List ℕ = c.args.list.now in
    let rest : List ℕ = drop (4 * c.args.n) l in
    let k : ℕ = length l - 4 * c.args.n in
    let part : List ℕ = c.fill_row-r.new.list in
    let all : take k rest ≡ rest = take_all k rest (omega (arith, length-drop (4 * c.args.n) l)) in
    let none : drop k rest ≡ [] = drop_of_length-le rest {i = k} (omega (arith, length-drop (4 * c.args.n) l)) in
    let filled = c.fill_row-r.ensures (sections_of x).first (first-yes x o.accepted) o.first.share in
    subst (Turned x c.args.p c.args.at c.args.quota c.args.n l _)
    (sym (c.turn_after.ensures ∙ ap (λ (z : ℕ). turn_after c.args.p c.args.at next up c.fill_row-r.result c.args.n z) e))
    (row-turned x c.args.p o c.args.at st v c.args.quota c.args.n b.least l _ part c.fill_row-r.result b.room
    (subst (λ (z : ℕ). ByteFilled (fill_by (on_base z (walk_on (axis_of (sections_of x).first))) c.args.at.first.0 c.args.quota (words_of 4 rest)) rest part c.fill_row-r.result) e
    (subst (λ (z : List ℕ). ByteFilled (fill_by (on_base (base (goal.at.returns c).After-step_from-row) (walk_on (axis_of (sections_of x).first))) c.args.at.first.0 c.args.quota (words_of 4 z)) z part c.fill_row-r.result) all filled))
    (ap (λ (z : List ℕ). take (4 * c.args.n) l ++ z) (ap (λ (z : List ℕ). part ++ z) none ∙ append-nil part)) next up
    (c.step_from-row.ensures (sections_of x).second (second-yes x o.accepted) o.second.share).1
    (c.requires.1 (sections_of x).third (third-yes x o.accepted) o.third.share).1)
