-- `more_digits` meets its contract. The invariant: what is read from here on, after the digits so far, is what is read from
-- the beginning.
use mathlib.Core.Path.{◌∙◌}
use native.Mathlib.Omega.{arith}
use mathlib.Core.Logic.{inl, inr}
use Rattle.sheet.proofs.NaturalLaws.{Grows}
use Rattle.sheet.proofs.ByteLaws.{digits-ended, digits-refused, digits-on, digits-out}
use Rattle.sheet.proofs.number.Cursor.more_digits.Goals as goal

pub returns-then-b-end : goal.returns-then-b-end
returns-then-b-end c = digits-ended c.in-Some.ensures.cases.0 _ _ _ c.if-b-end.true ∙ c.loop-b.invariant.1

pub returns-then-not-is_ascii_digit : goal.returns-then-not-is_ascii_digit
returns-then-not-is_ascii_digit c =
    digits-refused c.in-Some.ensures.cases.0 _ _ _ c.if-b-end.false
    (λ g. elim c.then-not-is_ascii_digit.either [
      | inl e ↦ omega (arith, g.low, g.high, rw e at c.is_ascii_digit.ensures.cases)
      | inr e ↦ omega (arith, g.some, e.1)
    ])
    ∙ c.loop-b.invariant.1

pub returns-then-max-n : goal.returns-then-max-n
returns-then-max-n c =
    digits-refused c.in-Some.ensures.cases.0 _ _ _ c.if-b-end.false (λ g. omega (arith, g.small)) ∙ c.loop-b.invariant.1

pub loop-b-preserved : goal.loop-b-preserved
loop-b-preserved c =
    let digit = c.if-not-is_ascii_digit.ensures.cases in
    let g : Grows c.args.max c.loop-b.n c.in-Some.b.now =
    record { some = omega arith; low = digit.0; high = digit.1; small = omega arith } in
    (omega arith, rw c.from.ensures (digits-on c.in-Some.ensures.cases.0 _ _ _ c.if-b-end.false g ∙ c.loop-b.invariant.1))

pub returns : goal.returns
returns c = digits-out _ _ _ _ c.in_default.ensures.cases ∙ c.loop-b.invariant.1
