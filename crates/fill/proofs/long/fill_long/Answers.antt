-- `fill_long` meets its contract.
use Rattle.fill.proofs.LongLaws.{plan-small, column-low}
use Rattle.fill.proofs.long.fill_long.Goals as goal

pub steps_of_period-e-requires : goal.steps_of_period-e-requires
steps_of_period-e-requires c =
    let small = plan-small c.args.s c.requires.0 c.args.plan c.requires.1 in
    rw (c.moves_of.ensures, c.column_at-column.ensures) (small.0, column-low c.args.s c.requires.0 c.args.plan c.requires.1 _)
