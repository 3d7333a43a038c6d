-- Every row of the table of starred cases holds, by computation.
use lib.Dec.{T}
use Rattle.numbers.specs.Search.{tally, passing, head_or, sum, sum_below}
use Rattle.numbers.specs.Gcd.{gcd_in, gcd}
use Rattle.model.specs.Ownership.{owns, rank, elements_of, held, back_to, nat, cell_under, last_index, last_cell, from_lower, declared_index}
use Rattle.model.specs.Ownership.{layout_of, cell_of, cell_owner, course_cells, course_of, column_of, owner_of, run_start, run_owner, owner}
use Rattle.model.specs.Sections.{count_of, element_at, layout, count, index, cell, address, owns_at, places, first_place}
use Rattle.model.specs.Steps.{
  processor_index,
  return_index,
  processor_step,
  return_step,
  one_step,
  steps_by,
  spread,
  steps_of,
  upward,
  cyclic_steps,
  cyclic_going,
  next_by,
  cyclic_next,
  run_steps,
  run_next,
  cost,
  next_place,
}
use Rattle.model.specs.Filling.{fill_by, answer, got, paid, standing}
use Rattle.model.specs.Questions.{first_no, between, sizes_fit, bounds_fit, cells_fit, is_index, in_range, ends_fit, is_place}
use Rattle.model.specs.Calls.{ownership, going_back, walk_of, request_of, fill, section_steps}
use Rattle.model.specs.Transfers.{is_entry, pair_places, entries_of, lists_after}
use Rattle.model.specs.Storages.{storage_start, storage_place, copied}
use Rattle.model.specs.Checkpoints.{copying, after_copy}
use Rattle.model.specs.Starred.{every, table}

pub starred : T (every table)
unfolding table tally passing head_or sum gcd_in gcd owns rank elements_of held back_to nat cell_under last_index last_cell from_lower declared_index layout_of cell_of cell_owner course_cells course_of column_of owner_of run_start run_owner owner count_of element_at layout count index cell address owns_at places first_place processor_index return_index processor_step return_step one_step steps_by spread steps_of upward cyclic_steps cyclic_going next_by cyclic_next run_steps run_next cost next_place fill_by answer got paid standing first_no between sizes_fit bounds_fit cells_fit is_index in_range ends_fit is_place ownership going_back walk_of request_of fill section_steps is_entry pair_places entries_of lists_after sum_below storage_start storage_place copied copying after_copy
starred = tt
