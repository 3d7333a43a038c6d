-- `ask_grid` meets its contract.
use Rattle.std.proofs.Common.{ap, ◌∙◌, rules}
use lib.IntN.{pos}
use mir.Syntax.{w64}
use mir.Val.{SFits}
use mir.ValLaws.{to_z-of_z}
use Rattle.model.specs.Questions.{between}
use Rattle.mapping.proofs.Signs.{answered}
use Rattle.model.specs.declared.Mapping as mappings
use Rattle.model.specs.declared.three.Three.{Three}
use Rattle.model.specs.Grids.{up_to}
use Rattle.grid.specs.Dimensions.{three_of}
use Rattle.grid.proofs.AskLaws.{rank-refused, rank-passed}
use Rattle.grid.proofs.dimensions.ask_grid.Goals as goal

pub returns-then-not-within : goal.returns-then-not-within
returns-then-not-within c =
    rank-refused c.args.g c.args.sizes.first.now c.args.sizes.second.now c.args.sizes.third.now
    (answered (between (pos 1) (pos 3)) c.args.g.rank (search rules) c.within.ensures c.if-not-within.true)

pub returns : goal.returns
returns c =
    let fits : SFits w64 c.args.g.rank = search rules in
    let asked = c.up_to.ensures
    ∙ (λ i. up_to (to_z-of_z w64 c.args.g.rank fits i) (c.single.ensures i) c.args.g.dimensions) in
    c.ask_dimensions.ensures
    ∙ ap (λ (m : Three mappings.Mapping). three_of m.first m.second m.third c.args.sizes.first.now c.args.sizes.second.now c.args.sizes.third.now) asked
    ∙ rank-passed c.args.g c.args.sizes.first.now c.args.sizes.second.now c.args.sizes.third.now
    (answered (between (pos 1) (pos 3)) c.args.g.rank fits c.within.ensures c.if-not-within.false)
