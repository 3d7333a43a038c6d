-- `part` meets its contract.
use native.Mathlib.Omega.{arith}
use Rattle.sheet.specs.Parts.{limit}
use Rattle.sheet.proofs.PartLaws.{part-some}
use Rattle.sheet.proofs.AnswerLaws.{natural-small}
use Rattle.sheet.proofs.number.Cursor.part.Goals as goal

pub lines-requires : goal.lines-requires
lines-requires c =
    let a = rw c.limit_of.ensures at c.in_ok-n.ensures in
    (natural-small 0 (limit c.args.kind) 10 (omega arith) (part-some c.args.kind) (omega arith) _ a, c.requires)
