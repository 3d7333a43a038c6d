-- `hpf_grid_going_back` meets its contract: what `going_back` answers of the grid, and that it fits the fields.
use mathlib.Core.Path.{sym, ◌∙◌, subst}
use mir.Syntax.{w64}
use mir.ValLaws.{to_z-of_z}
use Rattle.model.specs.Grids.{grid_with}
use Rattle.model.specs.GridCalls.{grid_going_back}
use Rattle.model.proofs.GridSizes.{grid-going-back-small}
use Rattle.hpfaddr.specs.Sizes.{GridFoundFits}
use Rattle.hpfaddr.proofs.grids.hpf_grid_going_back.Goals as goal

pub fields_of_found-requires : goal.fields_of_found-requires
fields_of_found-requires c = subst GridFoundFits (sym c.going_back.ensures.result_value) (grid-going-back-small _ _ _)

pub returns-clause-result_value : goal.returns-clause-result_value
returns-clause-result_value c =
    let q = to_z-of_z w64 c.args.processor c.ranges.processor in
    let x = to_z-of_z w64 c.args.address c.ranges.address in
    c.fields_of_found.ensures ∙ c.going_back.ensures.result_value
    ∙ (λ i. grid_going_back (grid_with (c.grid_of-x.ensures i) c.args.first_sizes.now c.args.second_sizes.now c.args.third_sizes.now) (q i) (x i))

pub returns-clause-grid_found_fits : goal.returns-clause-grid_found_fits
returns-clause-grid_found_fits c = subst GridFoundFits (sym (c.fields_of_found.ensures ∙ c.going_back.ensures.result_value)) (grid-going-back-small _ _ _)
