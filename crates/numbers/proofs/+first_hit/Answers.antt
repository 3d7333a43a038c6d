-- `first_hit` meets its contract: each way out is one of the laws of the first hit, and the call is on a smaller modulus.
use Rattle.std.proofs.Common.{◌<◌, refl, ◌∙◌, arith, Some, None}
use native.Mathlib.Nat.{pos_of_ne-zero}
use Rattle.numbers.proofs.Depth.{depth_falls}
use Rattle.numbers.proofs.HitLaws.{hit-zero, hit-reached, next-window, unwrap, hit-passed, multiple-fits}
use Rattle.numbers.proofs.+first_hit.Goals as goal

pub returns-then-s-eq0 : goal.returns-then-s-eq0
returns-then-s-eq0 t c = hit-zero _ _ _ _ c.requires c.if-s-eq0.true

pub returns-then-x-hi : goal.returns-then-x-hi
returns-then-x-hi t c = hit-reached _ _ _ _ c.requires (pos_of_ne-zero c.if-s-eq0.false) c.if-x-hi.true

pub first_hit-requires : goal.first_hit-requires
first_hit-requires t c =
    let pos : 0 < c.args.s = pos_of_ne-zero c.if-s-eq0.false in (
      omega (arith, c.decreases, depth_falls c.args.s c.args.m pos),
      next-window _ _ _ _ c.requires pos _ refl c.if-x-hi.false,
    )

pub overflow_mul-result : goal.overflow_mul-result
overflow_mul-result t c =
    omega (arith, multiple-fits _ _ _ _ c.requires (pos_of_ne-zero c.if-s-eq0.false) _ refl c.if-x-hi.false _ c.in_ok-y.ensures)

pub overflow_add-result : goal.overflow_add-result
overflow_add-result t c =
    omega (arith, multiple-fits _ _ _ _ c.requires (pos_of_ne-zero c.if-s-eq0.false) _ refl c.if-x-hi.false _ c.in_ok-y.ensures)

pub returns : goal.returns
unfolding unwrap
returns t c =
    hit-passed _ _ _ _ c.requires (pos_of_ne-zero c.if-s-eq0.false) _ refl c.if-x-hi.false (Some c.in_ok-y.y) c.in_ok-y.ensures

pub returns-in_err-y : goal.returns-in_err-y
unfolding unwrap
returns-in_err-y t c =
    c.from_residual.ensures
    ∙ hit-passed _ _ _ _ c.requires (pos_of_ne-zero c.if-s-eq0.false) _ refl c.if-x-hi.false None c.in_err-y.ensures
