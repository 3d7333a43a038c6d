-- `hpf_grid_fill` meets its contract: what `fill_into_bytes` reports and leaves is of the parameters, and its numbers fit their fields.
use mathlib.Core.Path.{◌≡◌, sym, ap, ◌∙◌, subst}
use mir.Syntax.{w64}
use mir.ValLaws.{to_z-of_z}
use Rattle.numbers.proofs.Signed.{back}
use Rattle.model.specs.ByteFills.{in_words}
use Rattle.model.specs.Grids.{grid_section_with}
use Rattle.model.specs.GridCalls.{GridByteFill, grid_fill, grid_bytes_after}
use Rattle.fill.specs.Answers.{report_of}
use Rattle.hpfaddr.specs.GridFields.{grid_section_from, grid_fill_of}
use Rattle.hpfaddr.specs.Sizes.{FilledFits}
use Rattle.hpfaddr.proofs.GridAnswerSizes.{grid-fill-small}
use Rattle.hpfaddr.proofs.grid_sections.hpf_grid_fill.Goals as goal
use Rattle.hpfaddr.proofs.grid_sections.hpf_grid_fill.Goals.{After-grid_section_of-y}

pub fields_of-requires : goal.fields_of-requires
fields_of-requires c = subst FilledFits (sym c.fill_into_bytes.ensures.0) (grid-fill-small _)

-- the call that is made
read : (c : After-grid_section_of-y)
    → grid_fill_of (grid_section_with c.grid_section_of-y.result c.args.first_sizes.now c.args.second_sizes.now c.args.third_sizes.now)
    (back w64 c.args.processor) (back w64 c.args.place) (back w64 c.args.quota) c.args.list.now
    ≡ grid_fill_of (grid_section_from c.args.x c.args.first_sizes.now c.args.second_sizes.now c.args.third_sizes.now)
    c.args.processor c.args.place c.args.quota c.args.list.now
read c = λ i.
    grid_fill_of (grid_section_with (c.grid_section_of-y.ensures i) c.args.first_sizes.now c.args.second_sizes.now c.args.third_sizes.now)
    (to_z-of_z w64 c.args.processor c.ranges.processor i)
    (to_z-of_z w64 c.args.place c.ranges.place i)
    (to_z-of_z w64 c.args.quota c.ranges.quota i) c.args.list.now

pub returns-clause-grid_filled_fields : goal.returns-clause-grid_filled_fields
returns-clause-grid_filled_fields c =
    let call = read (goal.at.returns-clause-grid_filled_fields c).After-grid_section_of-y in (
      c.fields_of.ensures ∙ c.fill_into_bytes.ensures.0 ∙ ap (λ (f : GridByteFill). report_of (grid_fill (in_words f))) call,
      c.fill_into_bytes.ensures.1 ∙ ap grid_bytes_after call,
    )

pub returns-clause-filled_fits : goal.returns-clause-filled_fits
returns-clause-filled_fits c = subst FilledFits (sym (c.fields_of.ensures ∙ c.fill_into_bytes.ensures.0)) (grid-fill-small _)
