-- `ask_dimensions` meets its contract.
use Rattle.std.proofs.Common.{◌≡◌, ◌*◌, ◌&&◌, leb, Ok, sym, ap, ◌∙◌}
use Rattle.model.specs.Grids.{grid_array}
use Rattle.model.specs.Refusals.{by_number}
use Rattle.model.proofs.RefusalLaws.{passed_on}
use Rattle.grid.specs.Dimensions.{three_with}
use Rattle.grid.proofs.AskLaws.{Passed, passed, passed-known, stopped, first-refused, second-refused, third-refused, products-refused, all-passed}
use Rattle.grid.proofs.dimensions.ask_dimensions.Goals as goal
use Rattle.grid.proofs.dimensions.ask_dimensions.Goals.{After-products_fit, In_ok-first, In_ok-second, In_ok-third}

pub returns-in_err-first : goal.returns-in_err-first
returns-in_err-first c =
    ap by_number (passed_on c.from_residual.result c.in_err-first.field-0.0 c.from_residual.ensures.1)
    ∙ first-refused c.args.m.first c.args.m.second c.args.m.third c.args.sizes.first.now c.args.sizes.second.now c.args.sizes.third.now _
    (stopped c.args.m.first c.args.sizes.first.now _ (sym c.in_err-first.ensures))

-- the first passed
first : (c : In_ok-first) → Passed c.args.m.first c.args.sizes.first.now c.in_ok-first.first
first c = passed c.args.m.first c.args.sizes.first.now _ (sym c.in_ok-first.ensures)

pub returns-in_err-second : goal.returns-in_err-second
returns-in_err-second c =
    ap by_number (passed_on c.from_residual-in_err-second.result c.in_err-second.field-0.0 c.from_residual-in_err-second.ensures.1)
    ∙ second-refused c.args.m.first c.args.m.second c.args.m.third c.args.sizes.first.now c.args.sizes.second.now c.args.sizes.third.now (first (goal.at.returns-in_err-second c).In_ok-first).none _
    (stopped c.args.m.second c.args.sizes.second.now _ (sym c.in_err-second.ensures))

-- the second passed
second : (c : In_ok-second) → Passed c.args.m.second c.args.sizes.second.now c.in_ok-second.second
second c = passed c.args.m.second c.args.sizes.second.now _ (sym c.in_ok-second.ensures)

pub returns-in_err-third : goal.returns-in_err-third
returns-in_err-third c =
    ap by_number (passed_on c.from_residual-in_err-third.result c.in_err-third.field-0.0 c.from_residual-in_err-third.ensures.1)
    ∙ third-refused c.args.m.first c.args.m.second c.args.m.third c.args.sizes.first.now c.args.sizes.second.now c.args.sizes.third.now (first (goal.at.returns-in_err-third c).In_ok-first).none
    (second (goal.at.returns-in_err-third c).In_ok-second).none _ (stopped c.args.m.third c.args.sizes.third.now _ (sym c.in_err-third.ensures))

-- the third passed
third : (c : In_ok-third) → Passed c.args.m.third c.args.sizes.third.now c.in_ok-third.third
third c = passed c.args.m.third c.args.sizes.third.now _ (sym c.in_ok-third.ensures)

pub products_fit-requires : goal.products_fit-requires
products_fit-requires c =
    let u = (passed-known _ _ (first (goal.at.products_fit-requires c).In_ok-first)).ranged.0 in
    let v = (passed-known _ _ (second (goal.at.products_fit-requires c).In_ok-second)).ranged.0 in
    let w = (passed-known _ _ (third (goal.at.products_fit-requires c).In_ok-third)).ranged.0 in
    record { processors_bound = (u.processors-high, v.processors-high, w.processors-high); size_bound = (u.size-high, v.size-high, w.size-high) }

-- the answer to 17, of the arrays
asked : (c : After-products_fit) → c.products_fit.result
    ≡ (leb (grid_array (three_with c.args.m.first c.args.m.second c.args.m.third c.args.sizes.first.now c.args.sizes.second.now c.args.sizes.third.now)).processors 1024
    && leb (grid_array (three_with c.args.m.first c.args.m.second c.args.m.third c.args.sizes.first.now c.args.sizes.second.now c.args.sizes.third.now)).size 2147483647)
unfolding grid_array
asked c =
    let u = (passed c.args.m.first c.args.sizes.first.now _ (sym c.in_ok-first.ensures)).is in
    let v = (passed c.args.m.second c.args.sizes.second.now _ (sym c.in_ok-second.ensures)).is in
    let w = (passed c.args.m.third c.args.sizes.third.now _ (sym c.in_ok-third.ensures)).is in
    c.products_fit.ensures
    ∙ (λ i. leb ((u i).layout.processors * ((v i).layout.processors * (w i).layout.processors)) 1024
    && leb ((u i).layout.size * ((v i).layout.size * (w i).layout.size)) 2147483647)

pub returns-then-not-products_fit : goal.returns-then-not-products_fit
returns-then-not-products_fit c =
    let at = goal.at.returns-then-not-products_fit c in
    products-refused c.args.m.first c.args.m.second c.args.m.third c.args.sizes.first.now c.args.sizes.second.now c.args.sizes.third.now (first at.In_ok-first).none (second at.In_ok-second).none
    (third at.In_ok-third).none (sym (asked at.After-products_fit) ∙ c.if-not-products_fit.true)

pub returns : goal.returns
returns c =
    let at = goal.at.returns c in
    let u = first at.In_ok-first in
    let v = second at.In_ok-second in
    let w = third at.In_ok-third in
    (λ i. Ok (record { first = u.is i; second = v.is i; third = w.is i }))
    ∙ all-passed c.args.m.first c.args.m.second c.args.m.third c.args.sizes.first.now c.args.sizes.second.now c.args.sizes.third.now u.none v.none w.none
    (sym (asked at.After-products_fit) ∙ c.if-not-products_fit.false)
