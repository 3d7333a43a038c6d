-- `section_of` meets its contract: a field of 64 bits is read back as the number it is.
use Rattle.std.proofs.Common.{arith}
use Rattle.std.proofs.lemmas.Int.{ints, to_z-of_z}
use Rattle.std.proofs.lemmas.Grind.{common_steps}
use Rattle.sheet.specs.Contents.{section_in}
use Rattle.sheet.proofs.section_of.Goals as goal

pub returns : goal.returns
unfolding section_in
returns c = grind (arith, ints, to_z-of_z, common_steps)
