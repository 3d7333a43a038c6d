-- `walk_of` meets its contract, whichever share has fewer elements.
use mathlib.Core.Path.{◌∙◌}
use Rattle.transfer.specs.Pairs.{places}
use Rattle.transfer.proofs.PairLaws.{fitted, meets-turned, places-turned}
use Rattle.transfer.proofs.walk.walk_of.Goals as goal

pub elements_in-requires : goal.elements_in-requires
elements_in-requires c = fitted c.args.p.sender c.requires.first

pub elements_in-requires-2 : goal.elements_in-requires-2
elements_in-requires-2 c = fitted c.args.p.receiver c.requires.second

pub returns-then-elements_in : goal.returns-then-elements_in
returns-then-elements_in c = (c.walk_by.ensures.0, λ i. places (c.walk_by.ensures.1 i) (c.walk_by.ensures.2 i))

pub walk_by-requires-2 : goal.walk_by-requires-2
walk_by-requires-2 c = meets-turned _ _ c.requires

pub returns : goal.returns
returns c = (c.walk_by-2.ensures.0, (λ i. places (c.walk_by-2.ensures.1 i) (c.walk_by-2.ensures.2 i)) ∙ places-turned c.args.p.sender c.args.p.receiver c.requires)
