-- `course_cells` meets its contract.
use mathlib.Core.Path.{refl}
use Rattle.model.specs.Ownership.{course_cells}
use Rattle.section.proofs.strides.course_cells.Goals as goal

pub returns : goal.returns
unfolding course_cells
returns c = refl
