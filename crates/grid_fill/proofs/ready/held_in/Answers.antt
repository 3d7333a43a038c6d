-- `held_in` meets its contract: what the part has is what the owners say.
use mathlib.Core.Path.{ap, ◌∙◌}
use Rattle.model.specs.Mappings.{dealing_with}
use Rattle.mapping.specs.Parts as parts
use Rattle.mapping.proofs.PartLaws.{covered, held-part}
use Rattle.grid_fill.proofs.ready.held_in.Goals as goal

pub returns : goal.returns
returns c =
    let d = dealing_with c.args.x.dealing c.args.sizes.now in
    c.elements_in.ensures
    ∙ ap (parts.held_in c.args.x.section.layout c.args.processor) c.part_of-part.ensures.value
    ∙ held-part c.args.x.section.layout c.requires.0.sized d (covered c.args.x.section.layout c.requires.0.sized d c.requires.1) c.args.processor
