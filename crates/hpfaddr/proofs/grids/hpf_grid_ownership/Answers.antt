-- `hpf_grid_ownership` meets its contract: the numbers that `ownership` answers fit the fields.
use mathlib.Core.Path.{sym, ◌∙◌, subst}
use mir.Syntax.{w64}
use mir.ValLaws.{to_z-of_z}
use Rattle.model.specs.Grids.{grid_with}
use Rattle.model.specs.GridCalls.{grid_ownership}
use Rattle.grid.specs.Answers.{indices_from}
use Rattle.model.proofs.GridSizes.{grid-ownership-small}
use Rattle.hpfaddr.specs.Sizes.{OwnedFits}
use Rattle.hpfaddr.proofs.grids.hpf_grid_ownership.Goals as goal

pub fields_of-requires : goal.fields_of-requires
fields_of-requires c = subst OwnedFits (sym c.ownership.ensures.result_value) (grid-ownership-small _ _)

pub returns-clause-result_value : goal.returns-clause-result_value
returns-clause-result_value c =
    let j = to_z-of_z w64 c.args.first c.ranges.first in
    let k = to_z-of_z w64 c.args.second c.ranges.second in
    let l = to_z-of_z w64 c.args.third c.ranges.third in
    c.fields_of.ensures ∙ c.ownership.ensures.result_value
    ∙ (λ i. grid_ownership (grid_with (c.grid_of-x.ensures i) c.args.first_sizes.now c.args.second_sizes.now c.args.third_sizes.now) (indices_from (j i) (k i) (l i)))

pub returns-clause-owned_fits : goal.returns-clause-owned_fits
returns-clause-owned_fits c = subst OwnedFits (sym (c.fields_of.ensures ∙ c.ownership.ensures.result_value)) (grid-ownership-small _ _)
