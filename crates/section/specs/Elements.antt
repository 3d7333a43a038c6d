-- A section as an array of its own, from its lowest cell on. Definitions only.
use Rattle.std.specs.Prelude.{ℕ, ◌-◌, ◌*◌, cond}
use Rattle.model.specs.declared.Layout.{Layout}
use Rattle.section.specs.declared.questions.Strided.{Strided}
use Rattle.section.specs.Strides.{cell_at}

-- the position of the lowest cell
abbrev pub lowest : Strided → ℕ
lowest w = cond w.upward 0 (w.count - 1)

unfoldable pub line_of : Strided → Layout
line_of w = record {
  cells = w.layout.cells;
  processors = w.layout.processors;
  block = w.layout.block;
  stride = w.layout.stride * w.stride;
  offset = cell_at w (lowest w);
  size = w.count;
}
