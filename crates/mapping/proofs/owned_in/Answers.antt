-- `owned_in` meets its contract.
use mathlib.Core.Path.{◌≡◌, sym, ap, ◌∙◌}
use mathlib.Core.Bool.{true}
use native.Mathlib.Omega.{arith}
use lib.IntN.{ℤ, pos, nat_abs, ◌+ℤ◌, ◌-ℤ◌}
use mir.Syntax.{w64}
use mir.Val.{SFits}
use mir.ValLaws.{to_z-of_z, to_z_pos}
use Rattle.numbers.proofs.Signed.{small-fits, back, fits-as, back_as}
use Rattle.model.specs.Ownership.{nat}
use Rattle.model.specs.Questions.{between}
use Rattle.model.proofs.BoundLaws.{within-from}
use Rattle.model.proofs.QuestionLaws.{Below, below-is}
use Rattle.mapping.specs.Answers.{ownership_in}
use Rattle.mapping.proofs.owned_in.Goals as goal
use Rattle.mapping.proofs.owned_in.Goals.{After-natural, After-within, Else-not-within}

-- the answer to question 9
asked : (c : After-within) → c.within.result ≡ between c.args.lower (c.args.lower +ℤ pos c.args.l.size -ℤ pos 1) c.args.index
asked c =
    let j = to_z-of_z w64 c.args.index c.ranges.index in
    let l = to_z-of_z w64 c.args.lower c.ranges.lower in
    let n = to_z_pos w64 c.args.l.size (omega (arith, c.requires.ranged.0.size-high)) in
    let r = to_z-of_z w64 c.last_of-last.result (record { sfits = c.last_of-last.type_inv }) ∙ c.last_of-last.ensures in
    c.within.ensures ∙ (λ i. between (l i) (r i) (j i)) ∙ (λ i. between c.args.lower (l i +ℤ n i -ℤ pos 1) c.args.index)

pub returns-then-not-within-clause-result_value : goal.returns-then-not-within-clause-result_value
unfolding ownership_in
returns-then-not-within-clause-result_value c =
    rw (sym (asked (goal.at.returns-then-not-within-clause-result_value c).After-within) ∙ c.if-not-within.true)

is-index : (c : Else-not-within) → between c.args.lower (c.args.lower +ℤ pos c.args.l.size -ℤ pos 1) c.args.index ≡ true
is-index c =
    sym ((let j = to_z-of_z w64 c.args.index c.ranges.index in
    let l = to_z-of_z w64 c.args.lower c.ranges.lower in
    let n = to_z_pos w64 c.args.l.size (omega (arith, c.requires.ranged.0.size-high)) in
    let r = to_z-of_z w64 c.last_of-last.result (record { sfits = c.last_of-last.type_inv }) ∙ c.last_of-last.ensures in
    c.within.ensures ∙ (λ i. between (l i) (r i) (j i)) ∙ (λ i. between c.args.lower (l i +ℤ n i -ℤ pos 1) c.args.index))) ∙ c.if-not-within.false

-- the index from 0
abbrev from : (c : Else-not-within) → ℤ
from c =
    c.args.index -ℤ c.args.lower

inside : (c : Else-not-within) → Below (from c) c.args.l.size
unfolding nat
inside c =
    below-is (from c) (pos c.args.l.size) (sym (within-from c.args.lower (pos c.args.l.size) c.args.index) ∙ (is-index c))

taken : (c : Else-not-within) → back w64 c.args.index -ℤ back w64 c.args.lower ≡ (from c)
taken c =
    λ i. to_z-of_z w64 c.args.index c.ranges.index i -ℤ to_z-of_z w64 c.args.lower c.ranges.lower i

from-fits : (c : Else-not-within) → SFits w64 (from c)
from-fits c =
    small-fits w64 (from c) (omega (arith, ap nat_abs (inside c).whole, (inside c).below, c.requires.ranged.0.size-high))

pub overflow_sub-index : goal.overflow_sub-index
overflow_sub-index c = fits-as w64 (taken (goal.at.overflow_sub-index c).Else-not-within) (from-fits (goal.at.overflow_sub-index c).Else-not-within)

counted :
    (c : After-natural) (i : Below (c.args.index -ℤ c.args.lower) c.args.l.size) →
    c.natural.result ≡ nat (c.args.index -ℤ c.args.lower)
counted c i =
    c.natural.ensures
    ∙ ap nat
    (back_as w64
    (λ i. to_z-of_z w64 c.args.index c.ranges.index i -ℤ to_z-of_z w64 c.args.lower c.ranges.lower i)
    (small-fits w64 (c.args.index -ℤ c.args.lower) (omega (arith, ap nat_abs i.whole, i.below, c.requires.ranged.0.size-high))))

pub home_of-requires : goal.home_of-requires
home_of-requires c = (
  c.requires.listed,
  c.requires.ranged.0,
  let i = inside (goal.at.home_of-requires c).Else-not-within in
      omega (arith, counted (goal.at.home_of-requires c).After-natural i, i.below),
)

pub returns-clause-result_value : goal.returns-clause-result_value
unfolding ownership_in
returns-clause-result_value c =
    let at = goal.at.returns-clause-result_value c in
    let counts = counted at.After-natural (inside at.Else-not-within) in
    rw (is-index at.Else-not-within) (cc (c.home_of.ensures.0, c.home_of.ensures.1, counts))
