-- `step` meets its contract.
use borrow.Author.Rules.{rules}
use Rattle.walk.proofs.MoveLaws.{steps_first, steps-second, steps-both}
use Rattle.walk.proofs.moves.Moves.step.Goals as goal

pub returns-then-column-self : goal.returns-then-column-self
returns-then-column-self c = steps_first _ _ (search rules)

pub returns-then-self-column : goal.returns-then-self-column
returns-then-self-column c = steps-second _ _ (search rules) (search rules) (search rules)

pub returns-else-self-column : goal.returns-else-self-column
returns-else-self-column c = steps-both _ _ (search rules) (search rules) (search rules)
