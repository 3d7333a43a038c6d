-- `places_of` meets its contract: from the first place on, all lie ahead.
use mathlib.Core.Path.{sym}
use Rattle.transfer.proofs.AlongLaws.{begins, all-ahead}
use Rattle.transfer.proofs.walk.places_of.Goals as goal

pub returns : goal.returns
returns c =
    let r = c.requires in
    let s = begins _ _ r.meets _ r.first in
    (record { meets = r.meets; steps = r.steps; inside = s.inside; mine = s.mine }, sym (all-ahead _ _ r.meets _ r.first))
