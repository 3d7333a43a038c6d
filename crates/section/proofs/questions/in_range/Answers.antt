-- `in_range` meets its contract: each test is of a number that is read back as it is.
use native.Mathlib.Omega.{arith}
use mir.ValLaws.{to_z-of_z}
use Rattle.std.proofs.lemmas.Grind.{common_steps}
use Rattle.model.specs.Questions.{in_range}
use Rattle.mapping.proofs.Signs.{zero_bits}
use Rattle.section.proofs.questions.in_range.Goals as goal

pub returns-then-within-3 : goal.returns-then-within-3
unfolding in_range
returns-then-within-3 c = grind (arith, common_steps, zero_bits, to_z-of_z)

pub returns-else-within-3 : goal.returns-else-within-3
unfolding in_range
returns-else-within-3 c = grind (arith, common_steps, zero_bits, to_z-of_z)
