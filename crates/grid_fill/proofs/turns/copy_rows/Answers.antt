-- `copy_rows` meets its contract: the addresses of the rows, a copy for each, and the row after them.
use Prim.Native.Nat.{ℕ, ◌+◌, ◌*◌, ◌/◌, ◌≤◌}
use mathlib.Core.Path.{refl, sym, ap, ◌∙◌, subst}
use mathlib.Core.List.{List}
use native.Mathlib.Nat.{mul-le-mul_right}
use native.Mathlib.Omega.{arith}
use lib.ListN.{length}
use Rattle.std.specs.Prelude.{Some}
use Rattle.model.specs.Grids.{sections_of}
use Rattle.model.proofs.GridAccepted.{third-yes}
use Rattle.grid_fill.specs.declared.turns.Turn.{Turn}
use Rattle.grid_fill.specs.Rows.{entering_at, Turned}
use Rattle.grid_fill.specs.Turns.{Begun, Copying, base_at}
use Rattle.grid_fill.proofs.RowTurns.{base-low}
use Rattle.grid_fill.proofs.TurnLaws.{going-in, second-placed, step-low}
use Rattle.grid_fill.proofs.RowLists.{few-rows, rows_long, some-rows, row_on, row-base, row-place}
use Rattle.grid_fill.proofs.CopyLaws.{after-turned}
use Rattle.grid_fill.proofs.turns.copy_rows.Goals as goal
use Rattle.grid_fill.proofs.turns.copy_rows.Goals.{After-addresses_from-r}

pub addresses_from-r-requires : goal.addresses_from-r-requires
addresses_from-r-requires c = (second-placed c.requires.begun.0, c.requires.begun.0.planned.second_way)

-- ---- the rows
abbrev begun : (c : After-addresses_from-r) → Begun c.args.p c.args.at (length c.args.list.now) 3 c.args.n
begun c =
    c.requires.begun.0

abbrev copying : (c : After-addresses_from-r) → Copying c.args.p c.args.at c.args.w (length c.args.rows.now / 4) (length c.args.list.now) c.args.n
copying c =
    c.requires.copying

-- the list of their addresses
abbrev listed : (c : After-addresses_from-r) → List ℕ
listed c =
    c.addresses_from-r.new.list

abbrev count : (c : After-addresses_from-r) → ℕ
count c =
    c.addresses_from-r.result.entries

few : (c : After-addresses_from-r) → (count c) ≤ length c.args.rows.now / 4
few c =
    let b = (begun c) in
    few-rows b.source c.args.p b.planned c.args.at b.stands (going-in b b.source b.planned) c.args.plane c.requires.begun.1 _ _ _ c.addresses_from-r.ensures

bounds : (c : After-addresses_from-r) → ((count c) * c.args.w.entries ≤ length c.args.list.now / 4) × ((count c) * c.args.w.tries ≤ 1000000)
    × (c.args.n + (count c) * c.args.w.entries ≤ length c.args.list.now / 4)
bounds c =
    let e = mul-le-mul_right c.args.w.entries (few c) in
    let g = mul-le-mul_right c.args.w.tries (few c) in
    (omega (arith, e, (copying c).room), omega (arith, g, (copying c).tries), omega (arith, e, (copying c).room))

pub put_rows-requires : goal.put_rows-requires
put_rows-requires c =
    let b = begun (goal.at.put_rows-requires c).After-addresses_from-r in
    let x = b.source in
    let o = b.planned in
    let v = going-in b x o in
    record {
      some = (copying (goal.at.put_rows-requires c).After-addresses_from-r).entries;
      before = (copying (goal.at.put_rows-requires c).After-addresses_from-r).before;
      base = (copying (goal.at.put_rows-requires c).After-addresses_from-r).base;
      listed = rw (rows_long x c.args.p o c.args.at b.stands v c.args.plane c.requires.begun.1 _ _ _ c.addresses_from-r.ensures) (few (goal.at.put_rows-requires c).After-addresses_from-r);
      room = (bounds (goal.at.put_rows-requires c).After-addresses_from-r).2;
      few-rows = o.few;
      plane-low = step-low (sections_of x).third (third-yes x o.accepted) c.args.p.shares.third o.third c.args.at.third.0 (b.stands.third v) c.args.plane c.requires.begun.1;
      low = λ j h.
          let on = row_on x c.args.p o c.args.at b.stands v c.args.plane c.requires.begun.1 _ _ _ c.addresses_from-r.ensures j h in
          omega (
            arith,
            row-base x c.args.p o c.args.at b.stands v c.args.plane c.requires.begun.1 _ _ _ c.addresses_from-r.ensures j h,
            base-low x c.args.p o _ c.args.at.third.0 on (b.stands.third v) c.args.at.first.0 (b.stands.first v),
          );
    }

pub overflow_mul-result : goal.overflow_mul-result
overflow_mul-result c = omega (arith, (bounds (goal.at.overflow_mul-result c).After-addresses_from-r).0)

pub overflow_mul-result-2 : goal.overflow_mul-result-2
overflow_mul-result-2 c = omega (arith, (bounds (goal.at.overflow_mul-result-2 c).After-addresses_from-r).1)

pub returns : goal.returns
returns c x o st known quota fits =
    let b = begun (goal.at.returns c).After-addresses_from-r in
    let v = going-in b x o in
    let in-planes = (c.requires.begun.1 (sections_of x).third (third-yes x o.accepted) o.third.share).1 in
    let place = row-place x c.args.p o c.args.at st v c.args.plane c.requires.begun.1 _ _ _ c.addresses_from-r.ensures in
    let turn : Turn = record { stand = c.entering.result; whole = Some c.args.w; entries = count (goal.at.returns c).After-addresses_from-r * c.args.w.entries; tries = count (goal.at.returns c).After-addresses_from-r * c.args.w.tries } in
    subst (λ (l : List ℕ). Turned x c.args.p c.args.at quota c.args.n c.args.list.now l turn) (sym c.put_rows.ensures)
    (after-turned x c.args.p o c.args.at st v (copying (goal.at.returns c).After-addresses_from-r).enters c.args.plane.next.0 in-planes c.args.list.now c.args.n c.args.w known quota (count (goal.at.returns c).After-addresses_from-r)
    (omega (arith, fits, mul-le-mul_right c.args.w.tries (few (goal.at.returns c).After-addresses_from-r))) (bounds (goal.at.returns c).After-addresses_from-r).2 (base_at c.args.p.elements c.args.p.rows c.args.plane.address.0 (listed (goal.at.returns c).After-addresses_from-r))
    (row_on x c.args.p o c.args.at st v c.args.plane c.requires.begun.1 _ _ _ c.addresses_from-r.ensures) (row-base x c.args.p o c.args.at st v c.args.plane c.requires.begun.1 _ _ _ c.addresses_from-r.ensures)
    (some-rows x c.args.p o c.args.at st v c.args.plane c.requires.begun.1 _ _ _ c.addresses_from-r.ensures (copying (goal.at.returns c).After-addresses_from-r).some) (copying (goal.at.returns c).After-addresses_from-r).entries turn
    (c.entering.ensures ∙ ap (λ (u : ℕ). entering_at c.args.p u c.args.at.third.0 c.args.plane.next.0) place) refl refl refl)
