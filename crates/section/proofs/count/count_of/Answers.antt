-- `count_of` meets its contract: it counts what the case has, and the cases are document 01's count.
use native.Mathlib.Omega.{arith}
use Rattle.std.proofs.lemmas.Grind.{common_steps}
use native.Mathlib.Nat.{div-le_self}
use Rattle.model.proofs.CaseLaws.{by_cases}
use Rattle.section.proofs.count.count_of.Goals as goal

pub nonzero_div-result : goal.nonzero_div-result
nonzero_div-result c = let k = by_cases c.args.x c.requires in grind (arith, common_steps, div-le_self)

pub overflow_add-result : goal.overflow_add-result
overflow_add-result c = let k = by_cases c.args.x c.requires in grind (arith, common_steps, div-le_self)

pub returns-in-Forward : goal.returns-in-Forward
returns-in-Forward c = let k = by_cases c.args.x c.requires in grind (arith, common_steps, div-le_self)

pub returns-in-Empty : goal.returns-in-Empty
returns-in-Empty c = let k = by_cases c.args.x c.requires in grind (arith, common_steps, div-le_self)
