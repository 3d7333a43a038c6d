-- `ask_ends` meets its contract: each answer has its number.
use mathlib.Core.Path.{◌≡◌}
use mathlib.Core.Bool.{true}
use borrow.Author.Tests.{eq-eqb, ne_eqb}
use lib.IntN.{pos}
use Rattle.model.specs.Questions.{is_below, first_no}
use Rattle.mapping.proofs.Signs.{answered}
use Rattle.transfer.proofs.questions.ask_ends.Goals as goal
use Rattle.transfer.proofs.questions.ask_ends.Goals.{then-not-is_processor-via-then-not-is_processor, then-not-is_processor-via-else-not-is_processor+then-not-is_processor-2, Else-not-is_processor-2}

pub returns-then-not-is_processor : goal.returns-then-not-is_processor
unfolding first_no
returns-then-not-is_processor c =
    let sender = is_below (pos c.args.right.layout.processors) in
    let receiver = is_below (pos c.args.left.layout.processors) in
    elim c.then-not-is_processor.branch [
      | then-not-is_processor-via-then-not-is_processor w ↦
          rw (answered sender c.args.sender c.ranges.sender c.is_processor.ensures w.if-not-is_processor.true)
      | then-not-is_processor-via-else-not-is_processor+then-not-is_processor-2 w ↦
          rw (
            answered sender c.args.sender c.ranges.sender c.is_processor.ensures w.if-not-is_processor.false,
            answered receiver c.args.receiver c.ranges.receiver w.is_processor-else-not-is_processor.ensures w.if-not-is_processor-2.true,
          )
    ]

-- the sender is a processor of the right, and the receiver one of the left
sender-is : (c : Else-not-is_processor-2) → is_below (pos c.args.right.layout.processors) c.args.sender ≡ true
sender-is c = answered (is_below (pos c.args.right.layout.processors)) c.args.sender c.ranges.sender c.is_processor.ensures c.if-not-is_processor.false

receiver-is : (c : Else-not-is_processor-2) → is_below (pos c.args.left.layout.processors) c.args.receiver ≡ true
receiver-is c = answered (is_below (pos c.args.left.layout.processors)) c.args.receiver c.ranges.receiver c.is_processor-else-not-is_processor.ensures c.if-not-is_processor-2.false

pub returns-then-left-right : goal.returns-then-left-right
unfolding first_no
returns-then-left-right c =
    let s = (goal.at.returns-then-left-right c).Else-not-is_processor-2 in
    rw (sender-is s, receiver-is s, ne_eqb c.args.left.count c.args.right.count c.if-left-right.true)

pub returns : goal.returns
unfolding first_no
returns c =
    let s = (goal.at.returns c).Else-not-is_processor-2 in
    rw (sender-is s, receiver-is s, eq-eqb c.args.left.count c.args.right.count c.if-left-right.false)
