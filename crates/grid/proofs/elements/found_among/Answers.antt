-- `found_among` meets its contract: an address below the product of three counts has a part below each.
use Prim.Native.Nat.{ℕ, ◌*◌, ◌/◌, ◌%◌, ◌<◌}
use mathlib.Core.Path.{◌≡◌, ap, ◌∙◌}
use mathlib.Core.Bool.{true}
use native.Mathlib.Omega.{arith}
use lib.IntN.{pos}
use mir.Syntax.{w64}
use Rattle.numbers.proofs.Division.{product_le}
use Rattle.numbers.proofs.Signed.{read_of}
use Rattle.model.specs.Ownership.{nat}
use Rattle.model.specs.Questions.{is_below}
use Rattle.model.proofs.PairLaws.{first-lt, second_lt}
use Rattle.mapping.proofs.Signs.{answered, below-natural}
use Rattle.grid.specs.Answers.{indices_from, index_in, found_among}
use Rattle.grid.proofs.DimensionLaws.{held_small}
use Rattle.grid.proofs.elements.found_among.Goals as goal
use Rattle.grid.proofs.elements.found_among.Goals.{After-natural-a, Else-not-is_below}

pub overflow_mul-h : goal.overflow_mul-h
overflow_mul-h c =
    omega (
      arith,
      product_le 2147483647 2147483647 (held_small c.args.x.second c.args.h.second c.requires.held_known_2)
          (held_small c.args.x.third c.args.h.third c.requires.held_known_3),
    )

pub returns-then-not-is_below : goal.returns-then-not-is_below
unfolding found_among
returns-then-not-is_below c = record { result_value = rw (answered (is_below (pos (c.args.h.first.elements * (c.args.h.second.elements * c.args.h.third.elements)))) c.args.address c.ranges.address c.is_below.ensures c.if-not-is_below.true); told_apart = (omega arith, tt) }

is_address : (c : Else-not-is_below) → is_below (pos (c.args.h.first.elements * (c.args.h.second.elements * c.args.h.third.elements))) c.args.address ≡ true
is_address c = answered (is_below (pos (c.args.h.first.elements * (c.args.h.second.elements * c.args.h.third.elements)))) c.args.address c.ranges.address c.is_below.ensures c.if-not-is_below.false

-- the parts of the address
abbrev a : (c : After-natural-a) → ℕ
a c =
    c.natural-a.result

abbrev near : (c : After-natural-a) → ℕ
near c =
    c.args.h.first.elements

abbrev row : (c : After-natural-a) → ℕ
row c =
    c.args.h.second.elements

abbrev plane : (c : After-natural-a) → ℕ
plane c =
    c.args.h.third.elements

below : (c : After-natural-a) → (a c) < (near c) * ((row c) * (plane c))
below c =
    below-natural c.args.address ((near c) * ((row c) * (plane c))) c.ranges.address c.natural-a.ensures ((answered (is_below (pos (c.args.h.first.elements * (c.args.h.second.elements * c.args.h.third.elements)))) c.args.address c.ranges.address c.is_below.ensures c.if-not-is_below.false))

near-lt : (c : After-natural-a) → (a c) % (near c) < (near c)
near-lt c =
    first-lt (near c) ((row c) * (plane c)) (a c) (below c)

row_lt : (c : After-natural-a) → (a c) / (near c) % (row c) < (row c)
row_lt c =
    first-lt (row c) (plane c) ((a c) / (near c)) (second_lt (near c) ((row c) * (plane c)) (a c) (below c))

plane-lt : (c : After-natural-a) → (a c) / (near c) / (row c) < (plane c)
plane-lt c =
    second_lt (row c) (plane c) ((a c) / (near c)) (second_lt (near c) ((row c) * (plane c)) (a c) (below c))

pub nonzero_div-rest : goal.nonzero_div-rest
nonzero_div-rest c = omega (arith, near-lt (goal.at.nonzero_div-rest c).After-natural-a)

pub nonzero_rem-a : goal.nonzero_rem-a
nonzero_rem-a c = omega (arith, near-lt (goal.at.nonzero_rem-a c).After-natural-a)

pub index_at-requires : goal.index_at-requires
index_at-requires c = (c.requires.held_known, near-lt (goal.at.index_at-requires c).After-natural-a)

pub nonzero_rem-rest : goal.nonzero_rem-rest
nonzero_rem-rest c = omega (arith, row_lt (goal.at.nonzero_rem-rest c).After-natural-a)

pub index_at-requires-2 : goal.index_at-requires-2
index_at-requires-2 c = (c.requires.held_known_2, row_lt (goal.at.index_at-requires-2 c).After-natural-a)

pub nonzero_div-rest-2 : goal.nonzero_div-rest-2
nonzero_div-rest-2 c = omega (arith, row_lt (goal.at.nonzero_div-rest-2 c).After-natural-a)

pub index_at-requires-3 : goal.index_at-requires-3
index_at-requires-3 c = (c.requires.held_known_3, plane-lt (goal.at.index_at-requires-3 c).After-natural-a)

pub returns : goal.returns
unfolding found_among
returns c =
    let e = read_of w64 nat c.args.address c.ranges.address c.natural-a.ensures in
    let i = c.index_at.ensures ∙ ap (λ (k : ℕ). index_in c.args.x.first c.args.h.first (k % near (goal.at.returns c).After-natural-a)) e in
    let j = c.index_at-2.ensures ∙ ap (λ (k : ℕ). index_in c.args.x.second c.args.h.second (k / near (goal.at.returns c).After-natural-a % row (goal.at.returns c).After-natural-a)) e in
    let k = c.index_at-3.ensures ∙ ap (λ (k : ℕ). index_in c.args.x.third c.args.h.third (k / near (goal.at.returns c).After-natural-a / row (goal.at.returns c).After-natural-a)) e in
    record { result_value = rw (is_address (goal.at.returns c).Else-not-is_below) (λ t. record { refusal = 0; indices = indices_from (i t) (j t) (k t) }); told_apart = tt }
