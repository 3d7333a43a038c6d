-- `turn` meets its contract.
use Rattle.walk.specs.Moving.{stepped}
use Rattle.walk.proofs.columns.turn.Goals as goal

pub returns : goal.returns
unfolding stepped
returns c =
    let e = rw c.step-next.ensures at c.find_move-add.ensures.0 in
    (rw (c.stop_at.ensures, c.moved_on.ensures, c.step-next.ensures, e), rw e at c.enter.ensures)
