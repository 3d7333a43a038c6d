-- `first_owned` meets its contract: the block lies ahead in the same course, or in the next, or holds the column.
use mathlib.Core.Path.{◌∙◌}
use mathlib.Core.Logic.{inl, inr}
use native.Mathlib.Omega.{arith}
use Rattle.section.proofs.Windows.{from-outside, from-inside}
use Rattle.section.proofs.place.first_owned.Goals as goal

pub returns-then-c-low : goal.returns-then-c-low
returns-then-c-low c =
    c.first_hit.ensures
    ∙ from-outside (record { above = omega arith; below = omega arith; place = inl (omega arith, omega arith) })
    c.requires.column (omega arith) c.args.s

pub returns-then-high-c : goal.returns-then-high-c
returns-then-high-c c =
    c.first_hit-then-high-c.ensures
    ∙ from-outside (record { above = omega arith; below = omega arith; place = inr (omega arith, omega arith) })
    c.requires.column (omega arith) c.args.s

pub returns : goal.returns
returns c = from-inside c.args.c c.args.s c.args.m c.args.low _ c.requires.column c.if-c-low.false c.if-high-c.false
