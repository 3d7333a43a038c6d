-- Every row for GEN_BLOCK holds, by computation.
use lib.Dec.{T}
use Rattle.numbers.specs.Search.{tally, passing, head_or, sum, sum_below}
use Rattle.numbers.specs.Words.{value_of, words_in, words_of}
use Rattle.model.specs.Mappings.{sizes_of}
use Rattle.model.specs.Ownership.{owns, rank, elements_of, held, back_to, nat, cell_under, last_index, last_cell, from_lower, declared_index}
use Rattle.model.specs.Ownership.{layout_of, cell_of, cell_owner, course_cells, course_of, column_of, run_start, run_owner, owner}
use Rattle.model.specs.Sections.{count_of, element_at, layout, count, index, cell, address, owns_at, places, first_place}
use Rattle.model.specs.Steps.{spread, steps_of, run_steps, run_next, cost, next_place}
use Rattle.model.specs.Filling.{fill_by, answer, got, paid, standing}
use Rattle.model.specs.Questions.{first_no, between, sizes_fit, bounds_fit, cells_fit, is_index, in_range, ends_fit, is_place}
use Rattle.model.specs.Calls.{ownership, going_back, local_count, walk_of, request_of, fill, section_steps}
use Rattle.model.specs.Transfers.{is_entry, pair_places, entries_of, lists_after}
use Rattle.model.specs.Storages.{storage_start, storage_place, copied}
use Rattle.model.specs.Checkpoints.{copying, after_copy}
use Rattle.model.specs.Starred.{every}
use Rattle.model.specs.GenBlockRows.{gen_block_rows}

pub rows-hold : T (every gen_block_rows)
unfolding gen_block_rows tally passing head_or sum sum_below value_of words_in words_of sizes_of owns rank elements_of held back_to nat cell_under last_index last_cell from_lower declared_index layout_of cell_of cell_owner course_cells course_of column_of run_start run_owner owner count_of element_at layout count index cell address owns_at places first_place spread steps_of run_steps run_next cost next_place fill_by answer got paid standing first_no between sizes_fit bounds_fit cells_fit is_index in_range ends_fit is_place ownership going_back local_count walk_of request_of fill section_steps is_entry pair_places entries_of lists_after storage_start storage_place copied copying after_copy
rows-hold = tt
