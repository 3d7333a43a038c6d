-- `gcd` meets its contract: by Euclid's step, which is on a smaller modulus.
use Rattle.std.proofs.Common.{ℕ, arith, sym, ap, ◌∙◌}
use native.Mathlib.Nat.{pos_of_ne-zero}
use Rattle.numbers.specs.Gcd.{gcd}
use Rattle.numbers.proofs.GcdLaws.{gcd-zero, gcd-step}
use Rattle.numbers.proofs.Depth.{depth_falls}
use Rattle.numbers.proofs.+gcd.Goals as goal

pub gcd-requires : goal.gcd-requires
gcd-requires t c =
    (omega (arith, c.decreases, depth_falls c.args.b c.args.a (pos_of_ne-zero c.if-b-eq0.false)), tt)

pub returns-then-b-eq0 : goal.returns-then-b-eq0
returns-then-b-eq0 t c = sym (ap (λ (b : ℕ). gcd c.args.a b) c.if-b-eq0.true ∙ gcd-zero c.args.a)

pub returns-else-b-eq0 : goal.returns-else-b-eq0
returns-else-b-eq0 t c = c.gcd.ensures ∙ gcd-step c.args.a c.args.b
