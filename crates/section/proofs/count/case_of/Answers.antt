-- `case_of` meets its contract: the distances fit, so that each is read back as the number it is.
use mathlib.Core.Path.{◌≡◌, sym, ap, ◌∙◌}
use mathlib.Core.Logic.{inl, inr}
use lib.IntN.{pos, nat_abs, ◌-ℤ◌}
use mir.Syntax.{w64}
use Rattle.numbers.proofs.Signed.{back, lt-le}
use Rattle.model.specs.declared.Case.TheVariants.{Forward, Backward}
use Rattle.model.proofs.AcceptedLaws.{ranged}
use Rattle.mapping.proofs.Signs.{bound-read}
use Rattle.section.proofs.Differences.{difference-fits, difference-read}
use Rattle.section.proofs.CaseLaws.{sized, turned, is-forward, is-backward, is-empty}
use Rattle.section.proofs.count.case_of.Goals as goal
use Rattle.section.proofs.count.case_of.Goals.{Start, else-x-gt0-via-then-x-gt0+else-rises, else-x-gt0-via-else-x-gt0, else-x-lt0-via-then-x-lt0+else-falls, else-x-lt0-via-else-x-lt0}

-- the numbers of the code, read back
stride : (c : Start) → back w64 c.args.x.stride ≡ c.args.x.stride
stride c = bound-read c.args.x.stride (ranged c.args.x c.requires).step

up : (c : Start) → back w64 (back w64 c.args.x.upper -ℤ back w64 c.args.x.lower) ≡ c.args.x.upper -ℤ c.args.x.lower
up c = let r = ranged c.args.x c.requires in difference-read c.args.x.upper c.args.x.lower r.upper r.lower

down : (c : Start) → back w64 (back w64 c.args.x.lower -ℤ back w64 c.args.x.upper) ≡ c.args.x.lower -ℤ c.args.x.upper
down c = let r = ranged c.args.x c.requires in difference-read c.args.x.lower c.args.x.upper r.lower r.upper

pub overflow_sub-up : goal.overflow_sub-up
overflow_sub-up c =
    let r = ranged c.args.x c.requires in
    difference-fits c.args.x.upper c.args.x.lower r.upper r.lower

pub overflow_sub-down : goal.overflow_sub-down
overflow_sub-down c =
    let r = ranged c.args.x c.requires in
    difference-fits c.args.x.lower c.args.x.upper r.lower r.upper

pub returns-then-rises : goal.returns-then-rises
returns-then-rises c =
    let g = (goal.at.returns-then-rises c).Start in
    let x = g.args.x in
    let positive = rw (stride g) at c.if-x-gt0.true in
    let natural = rw (up g) at c.if-rises.true in
    let distance = c.unsigned_abs.ensures.value ∙ ap nat_abs (up g) ∙ sym (sized (x.upper -ℤ x.lower) natural) in
    let size = c.unsigned_abs-then-rises.ensures.value ∙ ap nat_abs (stride g) ∙ sym (sized x.stride (lt-le (pos 0) x.stride positive)) in
    (λ i. Forward (distance i) (size i)) ∙ is-forward x.lower x.upper x.stride positive natural

pub returns-then-falls : goal.returns-then-falls
returns-then-falls c =
    let g = (goal.at.returns-then-falls c).Start in
    let x = g.args.x in
    let negative = rw (stride g) at c.if-x-lt0.true in
    let natural = rw (down g) at c.if-falls.true in
    let distance = c.unsigned_abs-then-falls.ensures.value ∙ ap nat_abs (down g) ∙ sym (sized (x.lower -ℤ x.upper) natural) in
    let size = c.unsigned_abs-then-falls-2.ensures.value ∙ ap nat_abs (stride g) ∙ sym (turned x.stride negative) in
    (λ i. Backward (distance i) (size i)) ∙ is-backward x.lower x.upper x.stride negative natural

pub returns : goal.returns
returns c =
    let g = (goal.at.returns c).Start in
    let x = g.args.x in
    is-empty x.lower x.upper x.stride
    (elim c.else-x-gt0.branch [
      | else-x-gt0-via-then-x-gt0+else-rises w ↦ inl (rw (up g) at w.if-rises.false)
      | else-x-gt0-via-else-x-gt0 w ↦ inr (rw (stride g) at w.if-x-gt0.false)
    ])
    (elim c.else-x-lt0.branch [
      | else-x-lt0-via-then-x-lt0+else-falls w ↦ inl (rw (down g) at w.if-falls.false)
      | else-x-lt0-via-else-x-lt0 w ↦ inr (rw (stride g) at w.if-x-lt0.false)
    ])
