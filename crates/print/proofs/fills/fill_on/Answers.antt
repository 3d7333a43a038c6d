-- `fill_on` meets its contract.
use Rattle.print.specs.Ahead.{listed}
use Rattle.print.proofs.ListedLaws.{in_blocks}
use Rattle.print.proofs.WentLaws.{starts, entries-le, went}
use Rattle.print.proofs.fills.fill_on.Goals as goal

pub fill_from-r-requires : goal.fill_from-r-requires
fill_from-r-requires c = starts c.args.x c.args.q c.requires.0 c.requires.1

pub overflow_sub-result : goal.overflow_sub-result
overflow_sub-result c =
    let x = listed c.args.x in
    entries-le x c.requires.0.fair.accepted c.args.q c.requires.1 c.args.list.now c.min-room.result c.min-room.ensures
    (c.fill_from-r.ensures x c.requires.0.fair.accepted (in_blocks c.args.x c.requires.0.fair c.args.q))

pub returns : goal.returns
returns c =
    let x = listed c.args.x in
    went x c.requires.0.fair.accepted c.args.q c.requires.1 c.args.list.now c.min-room.result c.min-room.ensures
    (c.fill_from-r.ensures x c.requires.0.fair.accepted (in_blocks c.args.x c.requires.0.fair c.args.q)) c.fill_from-r.auto.list
