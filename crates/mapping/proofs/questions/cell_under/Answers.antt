-- `cell_under` meets its contract: product, sum and difference fit, so that each is read back as the number it is.
use Rattle.std.proofs.Common.{rules}
use Prim.Native.Nat.{◌^◌, ◌≤◌}
use mathlib.Core.Path.{◌≡◌}
use native.Mathlib.Omega.{arith}
use lib.IntN.{ℤ, nat_abs, ◌+ℤ◌, ◌-ℤ◌, ◌*ℤ◌}
use mir.Syntax.{w64}
use mir.Val.{SFits}
use mir.ValLaws.{to_z-of_z}
use Rattle.numbers.proofs.Division.{product_le}
use Rattle.numbers.proofs.Signed.{size-add, size-sub, size-mul, small-fits, back, fits-as, back_as}
use Rattle.model.specs.Questions.{most_stride}
use Rattle.mapping.proofs.questions.cell_under.Goals as goal
use Rattle.mapping.proofs.questions.cell_under.Goals.{Start}

further : (c : Start) → ℤ
further c =
    c.args.m.stride *ℤ c.args.j

far : (c : Start) → nat_abs (further c) ≤ 2 ^ 43
unfolding further
far c =
    omega (arith, size-mul c.args.m.stride c.args.j, product_le most_stride 2147483647 c.requires.stride c.requires.index)

product : (c : Start) → back w64 c.args.m.stride *ℤ back w64 c.args.j ≡ (further c)
unfolding further
product c =
    λ i. to_z-of_z w64 c.args.m.stride (search rules) i *ℤ to_z-of_z w64 c.args.j c.ranges.j i

product-fits : (c : Start) → SFits w64 (further c)
product-fits c =
    small-fits w64 (further c) (omega (arith, (far c)))

on : (c : Start) → ℤ
on c =
    (further c) +ℤ c.args.m.offset

sum : (c : Start) → back w64 (back w64 c.args.m.stride *ℤ back w64 c.args.j) +ℤ back w64 c.args.m.offset ≡ (on c)
unfolding on
sum c =
    λ i. back_as w64 (product c) (product-fits c) i +ℤ to_z-of_z w64 c.args.m.offset (search rules) i

on-small : (c : Start) → nat_abs (on c) ≤ 2 ^ 44
unfolding on
on-small c =
    omega (arith, (far c), size-add (further c) c.args.m.offset, c.requires.offset)

sum_fits : (c : Start) → SFits w64 (on c)
sum_fits c =
    small-fits w64 (on c) (omega (arith, (on-small c)))

cell : (c : Start) → back w64 (back w64 (back w64 c.args.m.stride *ℤ back w64 c.args.j) +ℤ back w64 c.args.m.offset) -ℤ back w64 c.args.m.origin ≡ (on c) -ℤ c.args.m.origin
cell c =
    λ i. back_as w64 (sum c) (sum_fits c) i -ℤ to_z-of_z w64 c.args.m.origin (search rules) i

cell-fits : (c : Start) → SFits w64 ((on c) -ℤ c.args.m.origin)
cell-fits c =
    small-fits w64 ((on c) -ℤ c.args.m.origin) (omega (arith, (on-small c), size-sub (on c) c.args.m.origin, c.requires.origin))

pub overflow_add-result : goal.overflow_add-result
unfolding on further
overflow_add-result c = fits-as w64 (sum (goal.at.overflow_add-result c).Start) (sum_fits (goal.at.overflow_add-result c).Start)

pub overflow_sub-result : goal.overflow_sub-result
unfolding on further
overflow_sub-result c = fits-as w64 (cell (goal.at.overflow_sub-result c).Start) (cell-fits (goal.at.overflow_sub-result c).Start)

pub returns : goal.returns
unfolding on further
returns c = back_as w64 (cell (goal.at.returns c).Start) (cell-fits (goal.at.returns c).Start)
