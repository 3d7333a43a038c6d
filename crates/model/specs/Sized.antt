-- What a yes to questions 1 to 5 says of a layout's numbers, and 6 of a section's as an array of its own, whose stride is a·|s|.
use Rattle.std.specs.Prelude.{◌+◌, ◌-◌, ◌*◌, ◌^◌, ◌≤◌, ◌<◌}
use Rattle.model.specs.declared.Layout.{Layout}

pub record Sized (m : Layout) : Type 0 where
  pub cells-pos : 0 < m.cells
  pub cells-high : m.cells ≤ 2147483647
  pub processors-pos : 0 < m.processors
  pub processors-high : m.processors ≤ 1024
  pub block-pos : 0 < m.block
  pub block-high : m.block ≤ 65536
  pub stride-pos : 0 < m.stride
  pub stride-high : m.stride < 2 ^ 43
  -- of an array without elements too
  pub offset-high : m.offset < 2 ^ 44
  pub size-high : m.size ≤ 2147483647
  pub inside : 1 ≤ m.size → m.stride * (m.size - 1) + m.offset < m.cells
