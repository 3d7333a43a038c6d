-- Every row for grids holds, by computation.
use lib.Dec.{T}
use Rattle.numbers.specs.Search.{tally, passing, head_or, sum}
use Rattle.numbers.specs.Gcd.{gcd_in, gcd}
use Rattle.numbers.specs.Words.{value_of, words_in, words_of}
use Rattle.model.specs.Mappings.{sizes_of}
use Rattle.model.specs.Ownership.{owns, rank, elements_of, held, back_to, nat, cell_under, last_index, last_cell, from_lower, declared_index}
use Rattle.model.specs.Ownership.{layout_of, cell_of, cell_owner, course_cells, column_of, run_owner, owner}
use Rattle.model.specs.Sections.{count_of, element_at, layout, count, index, cell}
use Rattle.model.specs.Steps.{processor_index, return_index, processor_step, return_step, one_step, steps_by, spread, steps_of, upward}
use Rattle.model.specs.Steps.{cyclic_steps, cyclic_going, next_by, cyclic_next, run_steps, run_next, cost, next_place}
use Rattle.model.specs.Filling.{fill_by, answer, got, paid, standing}
use Rattle.model.specs.Questions.{first_no, between, sizes_fit, bounds_fit, cells_fit, is_index, in_range, ends_fit}
use Rattle.model.specs.Axes.{owns_on, places_on, first_on, later_on, next_in_rows}
use Rattle.model.specs.Grids.{mappings_of, sections_of, grid_array, grid_axis, number_of, indices_of}
use Rattle.model.specs.GridCalls.{grid_ownership, grid_going_back, grid_steps, grid_first_place, is_place_on, grid_request_of, grid_fill}
use Rattle.model.specs.GridRows.{every_row, grid_rows}
use Rattle.model.specs.GridRefusals.{every_refusal, grid_refusals, section_refusals}

pub grid-rows-hold : T (every_row grid_rows)
unfolding grid_rows tally passing head_or sum gcd_in gcd owns rank elements_of held back_to nat cell_under last_index last_cell from_lower declared_index layout_of cell_of cell_owner course_cells column_of run_owner owner count_of element_at layout count index cell processor_index return_index processor_step return_step one_step steps_by spread steps_of upward cyclic_steps cyclic_going next_by cyclic_next run_steps run_next cost next_place fill_by answer got paid standing first_no between sizes_fit bounds_fit cells_fit is_index in_range ends_fit owns_on places_on first_on later_on next_in_rows mappings_of sections_of grid_array grid_axis number_of indices_of grid_ownership grid_going_back grid_steps grid_first_place is_place_on grid_request_of grid_fill
grid-rows-hold = tt

pub grid-refusals-hold : T (every_refusal grid_refusals)
unfolding grid_refusals sum value_of words_in words_of sizes_of nat cell_under last_index last_cell layout_of first_no between sizes_fit bounds_fit cells_fit mappings_of grid_array
grid-refusals-hold = tt

pub section-refusals-hold : T (every_refusal section_refusals)
unfolding section_refusals sum value_of words_in words_of sizes_of owns nat cell_under last_index last_cell from_lower layout_of cell_of cell_owner run_owner owner count_of element_at count index first_no between sizes_fit bounds_fit cells_fit is_index in_range ends_fit owns_on sections_of grid_array grid_axis is_place_on
section-refusals-hold = tt
