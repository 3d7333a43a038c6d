-- Going on from a position of an accepted section, on natural numbers. Definitions only.
use Rattle.std.specs.Prelude.{ℕ, ◌+◌, ◌*◌, ◌/◌, ◌≤◌, ◌<◌, cond, ltb}
use Rattle.model.specs.declared.Step.{Step}
use Rattle.model.specs.declared.Steps.{Steps}
use Rattle.model.specs.declared.Steps.TheVariants.{NoStep, OneStep, TwoSteps}
use Rattle.model.specs.Ownership.{column_of}
use Rattle.model.specs.Steps.{try_both}
use Rattle.section.specs.declared.questions.Strided.{Strided}
use Rattle.section.specs.Strides.{Bounded, cell_at, steps_in}

-- t is a position of the section
pub record Held (w : Strided) (t : ℕ) : Type 0 where
  pub bounded : Bounded w
  pub below : t < w.count

-- the position n cells on from position t, or the count past the last one
abbrev pub on_from : Strided → ℕ → ℕ → ℕ
on_from w t n =
    let u : ℕ = t + n / (w.layout.stride * w.stride) in
    cond (ltb u w.count) u w.count

-- the next place by the steps; the count where there is no step
abbrev pub next_by : Strided → ℕ → Steps → ℕ
next_by w t NoStep = w.count
next_by w t (OneStep m) = on_from w t m.cells
next_by w t (TwoSteps r b) = on_from w t (try_both w.upward w.layout.block (column_of w.layout (cell_at w t)) r b).cells

unfoldable pub next_in : Strided → ℕ → ℕ
next_in w t = next_by w t (steps_in w)

-- a column of a block, and steps whose moves and cells are small enough to be added
pub record Tried (k q : ℕ) (r b : Step) : Type 0 where
  pub column : q < k
  pub block : k ≤ 65536
  pub moves : (r.column ≤ 65536) × (b.column ≤ 65536)
  pub cells : r.cells + b.cells < 9223372036854775808
