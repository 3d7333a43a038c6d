-- `number` meets its contract.
use Prim.Native.Nat.{ℕ, ◌<◌, ◌≤◌}
use native.Mathlib.Omega.{arith}
use mathlib.Core.Path.{◌≡◌, ◌∙◌, ap}
use mathlib.Core.List.{List}
use mir.Syntax.{w64}
use mir.Val.{to_z, of_z}
use lib.IntN.{pos, neg_ℤ, ◌-ℤ◌}
use borrow.Author.Rules.{rules}
use Rattle.std.specs.Prelude.{Err}
use Rattle.sheet.specs.Reading.{got, map_got}
use Rattle.sheet.specs.Numbers.{natural}
use Rattle.sheet.specs.Answers.{got_in}
use Rattle.sheet.proofs.AnswerLaws.{natural-small}
use Rattle.sheet.proofs.ByteLaws.{number-out, number-minus, number-plain}
use Rattle.sheet.proofs.number.Cursor.number.Goals as goal

-- the size that was read, with either sign, is below its bound
small : (low : ℕ) {end : ℕ} → low ≤ 1 → end < 48 → (s : List ℕ) {t : List ℕ} {n : ℕ} → got n t ≡ natural low 2147483648 end s
    → n < 2147483648
small low {end} a b s h = natural-small low 2147483648 end a (omega arith) b s h

pub returns-in_default : goal.returns-in_default
returns-in_default c = number-out _ _ c.in_default.ensures.cases

pub returns-in_err-size : goal.returns-in_err-size
returns-in_err-size c =
    let e : c.from_residual.result ≡ Err c.in_err-size.field-0.0 = search rules in
    ap got_in e ∙ ap (map_got (λ n. neg_ℤ (pos n))) c.in_err-size.ensures
    ∙ number-minus c.in-Some.ensures.cases.0 _ c.if-b-eq45.true

pub overflow_cast-result : goal.overflow_cast-result
overflow_cast-result c =
    let h = small 1 (omega arith) c.requires _ c.in_ok-size.ensures in search rules

pub overflow_sub-result : goal.overflow_sub-result
overflow_sub-result c =
    let h = small 1 (omega arith) c.requires _ c.in_ok-size.ensures in search rules

pub returns-then-b-eq45 : goal.returns-then-b-eq45
returns-then-b-eq45 c =
    let h = small 1 (omega arith) c.requires _ c.in_ok-size.ensures in
    let z : to_z w64 (of_z w64 (pos 0 -ℤ to_z w64 c.in_ok-size.size)) ≡ neg_ℤ (pos c.in_ok-size.size) = search rules in
    rw z (ap (map_got (λ n. neg_ℤ (pos n))) c.in_ok-size.ensures ∙ number-minus c.in-Some.ensures.cases.0 _ c.if-b-eq45.true)

pub returns-in_err-size-2 : goal.returns-in_err-size-2
returns-in_err-size-2 c =
    let e : c.from_residual-in_err-size-2.result ≡ Err c.in_err-size-2.field-0.0 = search rules in
    ap got_in e ∙ ap (map_got pos) c.in_err-size-2.ensures ∙ number-plain c.in-Some.ensures.cases.0 _ c.if-b-eq45.false

pub overflow_cast-result-2 : goal.overflow_cast-result-2
overflow_cast-result-2 c =
    let h = small 0 (omega arith) c.requires _ c.in_ok-size-2.ensures in search rules

pub returns : goal.returns
returns c =
    let h = small 0 (omega arith) c.requires _ c.in_ok-size-2.ensures in
    let z : to_z w64 c.in_ok-size-2.size ≡ pos c.in_ok-size-2.size = search rules in
    rw z (ap (map_got pos) c.in_ok-size-2.ensures ∙ number-plain c.in-Some.ensures.cases.0 _ c.if-b-eq45.false)
