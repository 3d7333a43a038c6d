-- `line_of` meets its contract.
use native.Mathlib.Omega.{arith}
use Rattle.std.proofs.lemmas.Grind.{common_steps}
use Rattle.section.specs.Elements.{line_of}
use Rattle.section.proofs.elements.line_of.Goals as goal

pub returns : goal.returns
unfolding line_of
returns c = grind (arith, common_steps)
