-- `element_at` meets its contract: product and sum fit, so that each is read back as the number it is.
use Prim.Native.Nat.{ℕ, ◌*◌, ◌≤◌}
use mathlib.Core.Path.{◌≡◌}
use native.Mathlib.Omega.{arith}
use lib.IntN.{ℤ, pos, nat_abs, ◌+ℤ◌, ◌*ℤ◌}
use mir.Syntax.{w64}
use mir.Val.{SFits, to_z}
use mir.ValLaws.{to_z_pos}
use Rattle.numbers.proofs.Division.{product_le}
use Rattle.numbers.proofs.Signed.{size-add, size-mul, small-fits, back, fits-as, back_as}
use Rattle.mapping.proofs.Signs.{bound-read}
use Rattle.section.proofs.count.element_at.Goals as goal

module _ (l s : ℤ) (t : ℕ) (h : (nat_abs l ≤ 2147483647) × (nat_abs s ≤ 2147483647) × (t ≤ 4294967295)) where
  far : nat_abs (pos t *ℤ s) ≤ 4294967295 * 2147483647
  far = omega (arith, size-mul (pos t) s, product_le 4294967295 2147483647 h.2 h.1)

  product : to_z w64 t *ℤ back w64 s ≡ pos t *ℤ s
  product = λ i. to_z_pos w64 t (omega arith) i *ℤ bound-read s h.1 i

  product-fits : SFits w64 (pos t *ℤ s)
  product-fits = small-fits w64 (pos t *ℤ s) (omega (arith, far))

  sum : back w64 l +ℤ back w64 (to_z w64 t *ℤ back w64 s) ≡ l +ℤ pos t *ℤ s
  sum = λ i. bound-read l h.0 i +ℤ back_as w64 product product-fits i

  sum-small : nat_abs (l +ℤ pos t *ℤ s) ≤ 9223372034707292160
  sum-small = omega (arith, far, size-add l (pos t *ℤ s), h.0)

  sum-fits : SFits w64 (l +ℤ pos t *ℤ s)
  sum-fits = small-fits w64 (l +ℤ pos t *ℤ s) (omega (arith, sum-small))

pub overflow_add-result : goal.overflow_add-result
overflow_add-result c =
    fits-as w64 (sum c.args.l.0 c.args.s c.args.t.0 c.requires) (sum-fits c.args.l.0 c.args.s c.args.t.0 c.requires)

pub returns : goal.returns
returns c =
    let read = back_as w64 (sum c.args.l.0 c.args.s c.args.t.0 c.requires) (sum-fits c.args.l.0 c.args.s c.args.t.0 c.requires) in
    record { result_value = read; result_bound = rw read (sum-small c.args.l.0 c.args.s c.args.t.0 c.requires) }
