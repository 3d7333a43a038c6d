-- What stands for a dimension past the rank: one element on one processor, as a call passes it, and the section of it.
-- Definitions only.
use Rattle.std.specs.Prelude.{pos}
use Rattle.model.specs.declared.Triplet.{Triplet}
use Rattle.model.specs.declared.Dealing.TheVariants.{Cyclic}
use Rattle.model.specs.declared.Mapping as mappings
use Rattle.model.specs.declared.Section as sections

abbrev pub single_numbers : mappings.Mapping
single_numbers = record {
  cells = pos 1;
  processors = pos 1;
  dealing = Cyclic (pos 1);
  origin = pos 0;
  stride = pos 1;
  offset = pos 0;
  size = pos 1;
  lower = pos 0;
}

abbrev pub single_triplet : Triplet
single_triplet = record { lower = pos 0; upper = pos 0; stride = pos 1 }

abbrev pub single_parts : sections.Section
single_parts = record { mapping = single_numbers; triplet = single_triplet }
