-- `index_at` meets its contract.
use Prim.Native.Nat.{◌<◌}
use mathlib.Core.Path.{◌≡◌, ap, ◌∙◌}
use native.Mathlib.Omega.{arith}
use lib.IntN.{ℤ, pos, ◌+ℤ◌}
use mir.Syntax.{w64}
use mir.Val.{SFits, to_z}
use mir.ValLaws.{to_z_pos}
use Rattle.numbers.proofs.Signed.{size-add, small-fits, back, fits-as, back_as}
use Rattle.mapping.proofs.Signs.{bound-read}
use Rattle.grid.proofs.DimensionLaws.{found_below}
use Rattle.grid.proofs.elements.index_at.Goals as goal
use Rattle.grid.proofs.elements.index_at.Goals.{After-element_in-i}

low : (c : After-element_in-i) → c.element_in-i.result.0 < 2147483648
low c =
    omega (
      arith,
      c.element_in-i.ensures,
      found_below c.args.x.layout c.requires.0.ranged.0 c.args.h.processor c.args.h.part c.args.address.0 (omega (arith, c.requires.1, c.requires.0.elements)),
      c.requires.0.ranged.0.size-high,
    )

index : (c : After-element_in-i) → ℤ
index c =
    c.args.x.lower +ℤ pos c.element_in-i.result.0

sum : (c : After-element_in-i) → back w64 c.args.x.lower +ℤ to_z w64 c.element_in-i.result.0 ≡ (index c)
unfolding index
sum c =
    λ i. bound-read c.args.x.lower c.requires.0.ranged.1 i +ℤ to_z_pos w64 c.element_in-i.result.0 (omega (arith, (low c))) i

index-fits : (c : After-element_in-i) → SFits w64 (index c)
unfolding index
index-fits c =
    small-fits w64 (index c)
    (omega (arith, (low c), size-add c.args.x.lower (pos c.element_in-i.result.0), c.requires.0.ranged.1))

pub overflow_cast-result : goal.overflow_cast-result
overflow_cast-result c = small-fits w64 (pos c.element_in-i.result.0) (omega (arith, low (goal.at.overflow_cast-result c).After-element_in-i))

pub overflow_add-result : goal.overflow_add-result
unfolding index
overflow_add-result c = fits-as w64 (sum (goal.at.overflow_add-result c).After-element_in-i) (index-fits (goal.at.overflow_add-result c).After-element_in-i)

pub returns : goal.returns
unfolding index
returns c = back_as w64 (sum (goal.at.returns c).After-element_in-i) (index-fits (goal.at.returns c).After-element_in-i) ∙ ap (λ i. c.args.x.lower +ℤ pos i) c.element_in-i.ensures
