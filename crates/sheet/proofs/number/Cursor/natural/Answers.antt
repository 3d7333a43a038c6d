-- `natural` meets its contract.
use Prim.Native.Nat.{ℕ}
use native.Mathlib.Omega.{arith}
use mathlib.Core.Path.{◌∙◌, ap}
use Rattle.sheet.specs.Numbers.{digits}
use Rattle.sheet.proofs.ByteLaws.{natural-out, natural-barred, natural-begun}
use Rattle.sheet.proofs.number.Cursor.natural.Goals as goal

pub returns-in_default : goal.returns-in_default
returns-in_default c = natural-out _ _ _ _ c.in_default.ensures.cases

pub returns-then-not-is_ascii_digit : goal.returns-then-not-is_ascii_digit
returns-then-not-is_ascii_digit c =
    natural-barred c.in-Some.ensures.cases.0 _ _ _ (λ g. omega (arith, g.least, g.high, c.if-not-is_ascii_digit.ensures.cases))

pub returns-then-digit-low : goal.returns-then-digit-low
returns-then-digit-low c =
    natural-barred c.in-Some.ensures.cases.0 _ _ _ (λ g. omega (arith, g.least, g.small, c.then-digit-low.either))

pub returns : goal.returns
returns c =
    let digit = c.if-not-is_ascii_digit.ensures.cases in
    c.more_digits.ensures
    ∙ ap (λ (d : ℕ). digits c.args.max c.args.end d c.in-Some.rest.now) c.from-digit.ensures
    ∙ natural-begun c.in-Some.ensures.cases.0 _ _ _
    (record { least = omega (arith, digit); high = digit.1; small = omega arith })
