-- Demand 3 holds of every accepted section of a grid, for fills of words and for fills of bytes. Assumes nothing.
use mathlib.Core.Path.{◌≡◌, refl, ◌∙◌}
use Rattle.model.specs.Questions.{first_no}
use Rattle.model.specs.Grids.{GridSection, of_grid_section}
use Rattle.model.specs.ByteFills.{in_words}
use Rattle.model.specs.GridCalls.{grid_request_of, grid_fill, grid_outcome_of}
use Rattle.model.specs.Demand3.{Demand3}
use Rattle.model.specs.GridDemands.{grids, in_grid_word_lists, in_grid_byte_lists}
use Rattle.model.proofs.KindLaws.{Same}
use Rattle.model.proofs.Demand3Holds.{in-form, word-asks, byte-asks}
use Rattle.model.proofs.GridFillCalls.{grid-outcome-is}
use Rattle.model.proofs.GridFills.{grid-laws}

word-outcome : Same in_grid_word_lists
unfolding grid_fill grid_request_of
word-outcome c = refl

pub grid-demand3 : (x : GridSection) → first_no (of_grid_section x) ≡ 0 → Demand3 in_grid_word_lists x
grid-demand3 = in-form in_grid_word_lists grid-laws word-outcome (word-asks grids grid_fill)

pub grid-demand3-of-bytes : (x : GridSection) → first_no (of_grid_section x) ≡ 0 → Demand3 in_grid_byte_lists x
grid-demand3-of-bytes =
    in-form in_grid_byte_lists grid-laws (λ c. grid-outcome-is c ∙ word-outcome (in_words c)) (byte-asks grids grid_outcome_of)
