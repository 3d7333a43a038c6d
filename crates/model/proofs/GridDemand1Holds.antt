-- Demand 1 holds of every call about a grid. Assumes nothing.
use mathlib.Core.Path.{refl}
use Rattle.model.specs.Grids.{of_grid_section}
use Rattle.model.specs.ByteFills.{in_words}
use Rattle.model.specs.GridCalls.{of_grid_ownership, grid_ownership, of_grid_back, grid_going_back, grid_steps, of_grid_place, grid_first_place}
use Rattle.model.specs.GridCalls.{of_grid_fill, grid_fill, grid_bytes_after, grid_outcome_of}
use Rattle.model.specs.GridDemands.{GridDemand1}
use Rattle.model.proofs.AnsweredLaws.{either-of}
use Rattle.model.proofs.ByteFillsHold.{byte-answers}
use Rattle.model.proofs.GridFillCalls.{grid-fill-answers, grid-words-left}

pub grid-demand1 : GridDemand1
unfolding grid_ownership grid_going_back grid_steps grid_first_place grid_outcome_of grid_bytes_after
grid-demand1 = record {
  of-ownership = λ g j. either-of _ _ _ (of_grid_ownership g j) refl _ _ refl refl (refl, refl) (refl, (refl, tt));
  of-going-back = λ g q x. either-of _ _ _ (of_grid_back g q x) refl _ _ refl refl refl refl;
  of-section-steps = λ x. either-of _ _ _ (of_grid_section x) refl _ _ refl refl (refl, refl, refl, refl) (refl, refl, refl, refl);
  of-first-place = λ x q. either-of _ _ _ (of_grid_place x q) refl _ _ refl refl refl (refl, tt);
  of-fill = grid-fill-answers;
  of-byte-fill = λ c.
      byte-answers _ _ c.bytes (grid_fill (in_words c)) (of_grid_fill (in_words c)) (grid-words-left c) (λ f n. n.0.0)
      (grid-fill-answers (in_words c));
}
