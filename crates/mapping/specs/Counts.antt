-- The counts by which dealing.rt comes to a processor's cells and elements. Definitions only.
use Rattle.std.specs.Prelude.{ℕ, ◌+◌, ◌-◌, ◌*◌}
use Rattle.numbers.specs.FloorSum.{floor_sum}
use Rattle.model.specs.declared.Layout.{Layout}

-- how many numbers of the n from first on are below end
abbrev pub overlap : ℕ → ℕ → ℕ → ℕ
overlap first n end = end - first - (end - (first + n))

-- the courses of the cells of the elements below i, each moved on by d blocks, summed
abbrev pub course_sum : Layout → ℕ → ℕ → ℕ
course_sum l i d = floor_sum i (l.processors * l.block) l.stride (l.offset + d * l.block)
