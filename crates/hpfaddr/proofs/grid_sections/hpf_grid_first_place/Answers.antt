-- `hpf_grid_first_place` meets its contract: what `first_place` answers of the section, and that it fits the fields.
use mathlib.Core.Path.{sym, ◌∙◌, subst}
use mir.Syntax.{w64}
use mir.ValLaws.{to_z-of_z}
use Rattle.model.specs.Grids.{grid_section_with}
use Rattle.model.specs.GridCalls.{grid_first_place}
use Rattle.hpfaddr.proofs.GridAnswerSizes.{grid-first-place-small}
use Rattle.hpfaddr.specs.Sizes.{PlacedFits}
use Rattle.hpfaddr.proofs.grid_sections.hpf_grid_first_place.Goals as goal

pub fields_of_place-requires : goal.fields_of_place-requires
fields_of_place-requires c = subst PlacedFits (sym c.first_place.ensures.result_value) (grid-first-place-small _ _)

pub returns-clause-result_value : goal.returns-clause-result_value
returns-clause-result_value c =
    let q = to_z-of_z w64 c.args.processor c.ranges.processor in
    c.fields_of_place.ensures ∙ c.first_place.ensures.result_value
    ∙ (λ i. grid_first_place (grid_section_with (c.grid_section_of-y.ensures i) c.args.first_sizes.now c.args.second_sizes.now c.args.third_sizes.now) (q i))

pub returns-clause-placed_fits : goal.returns-clause-placed_fits
returns-clause-placed_fits c = subst PlacedFits (sym (c.fields_of_place.ensures ∙ c.first_place.ensures.result_value)) (grid-first-place-small _ _)
