-- A difference of two numbers in range, as the machine works it out: it fits, and is read back as the number it is.
use Prim.Native.Nat.{◌≤◌}
use mathlib.Core.Path.{◌≡◌}
use native.Mathlib.Omega.{arith}
use lib.IntN.{ℤ, nat_abs, ◌-ℤ◌}
use mir.Syntax.{w64}
use mir.Val.{SFits}
use Rattle.numbers.proofs.Signed.{size-sub, small-fits, back, fits-as, back_as}
use Rattle.mapping.proofs.Signs.{bound-read}

module _ (y z : ℤ) (hy : nat_abs y ≤ 2147483647) (hz : nat_abs z ≤ 2147483647) where
  worked-out : back w64 y -ℤ back w64 z ≡ y -ℤ z
  worked-out = λ i. bound-read y hy i -ℤ bound-read z hz i

  small : SFits w64 (y -ℤ z)
  small = small-fits w64 (y -ℤ z) (omega (arith, size-sub y z, hy, hz))

  pub difference-fits : SFits w64 (back w64 y -ℤ back w64 z)
  difference-fits = fits-as w64 worked-out small

  pub difference-read : back w64 (back w64 y -ℤ back w64 z) ≡ y -ℤ z
  difference-read = back_as w64 worked-out small
