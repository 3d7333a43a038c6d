-- `step_from` meets its contract: a fill of one entry has its address, and the place after it.
use mathlib.Core.Path.{refl, ◌∙◌}
use Rattle.grid_fill.proofs.ShareFills.{step_is}
use Rattle.grid_fill.proofs.steps.step_from.Goals as goal

pub returns : goal.returns
returns c x ok same =
    let r = step_is c.args.s c.args.t.0 c.requires.0 x ok same _ _ _ refl c.addresses_from-r.ensures in
    (c.word_at.ensures ∙ r.0, r.1)
