-- `found_on` meets its contract.
use Prim.Native.Nat.{ℕ, ◌*◌, ◌/◌, ◌%◌, ◌≤◌, ◌<◌}
use mathlib.Core.Path.{◌≡◌, sym, ap, subst, ◌∙◌}
use mathlib.Core.Bool.{true}
use native.Mathlib.Omega.{arith}
use lib.IntN.{pos}
use mir.Syntax.{w64}
use mir.ValLaws.{to_z-of_z}
use Rattle.numbers.proofs.Division.{product_le}
use Rattle.numbers.proofs.Signed.{read_of}
use Rattle.model.specs.Ownership.{nat}
use Rattle.model.specs.Questions.{is_below}
use Rattle.mapping.proofs.Signs.{answered}
use Rattle.grid.specs.Answers.{held_by, found_among, going_back_on}
use Rattle.grid.proofs.DimensionLaws.{held-known}
use Rattle.grid.proofs.ElementLaws.{near-below, row_below, plane-below, held_high, found-so}
use Rattle.grid.proofs.elements.found_on.Goals as goal
use Rattle.grid.proofs.elements.found_on.Goals.{After-held_by-plane, After-natural-o}

pub overflow_mul-q : goal.overflow_mul-q
overflow_mul-q c = omega (arith, product_le 1024 1024 c.requires.second.ranged.0.processors-high c.requires.third.ranged.0.processors-high)

pub returns-then-not-is_below : goal.returns-then-not-is_below
unfolding going_back_on
returns-then-not-is_below c = record { result_value = rw (answered (is_below (pos (c.args.x.first.layout.processors * (c.args.x.second.layout.processors * c.args.x.third.layout.processors)))) c.args.processor c.ranges.processor c.is_below.ensures c.if-not-is_below.true); told_apart = (omega arith, tt) }

yes : (c : After-natural-o) → is_below (pos (c.args.x.first.layout.processors * (c.args.x.second.layout.processors * c.args.x.third.layout.processors))) c.args.processor ≡ true
yes c =
    answered (is_below (pos (c.args.x.first.layout.processors * (c.args.x.second.layout.processors * c.args.x.third.layout.processors)))) c.args.processor c.ranges.processor c.is_below.ensures
    c.if-not-is_below.false

number : (c : After-natural-o) → c.natural-o.result ≡ nat c.args.processor
number c =
    read_of w64 nat c.args.processor c.ranges.processor c.natural-o.ensures

abbrev p : (c : After-natural-o) → ℕ
p c =
    c.args.x.first.layout.processors

abbrev q : (c : After-natural-o) → ℕ
q c =
    c.args.x.second.layout.processors

near-lt : (c : After-natural-o) → c.natural-o.result % (p c) < (p c)
near-lt c =
    subst (λ (o : ℕ). o % (p c) < (p c)) (sym (number c))
    (near-below c.args.x c.args.sizes.first.now c.args.sizes.second.now c.args.sizes.third.now c.requires c.args.processor (yes c))

row_lt : (c : After-natural-o) → c.natural-o.result / (p c) % (q c) < (q c)
row_lt c =
    subst (λ (o : ℕ). o / (p c) % (q c) < (q c)) (sym (number c))
    (row_below c.args.x c.args.sizes.first.now c.args.sizes.second.now c.args.sizes.third.now c.requires c.args.processor (yes c))

plane-lt : (c : After-natural-o) → c.natural-o.result / (p c) / (q c) < c.args.x.third.layout.processors
plane-lt c =
    subst (λ (o : ℕ). o / (p c) / (q c) < c.args.x.third.layout.processors) (sym (number c))
    (plane-below c.args.x c.args.sizes.first.now c.args.sizes.second.now c.args.sizes.third.now c.requires c.args.processor (yes c))

pub held_by-near-requires : goal.held_by-near-requires
held_by-near-requires c = (c.requires.first, near-lt (goal.at.held_by-near-requires c).After-natural-o)

pub held_by-row-requires : goal.held_by-row-requires
held_by-row-requires c = (c.requires.second, row_lt (goal.at.held_by-row-requires c).After-natural-o)

pub nonzero_div-rest-2 : goal.nonzero_div-rest-2
nonzero_div-rest-2 c = c.requires.second.ranged.0.processors-pos

pub held_by-plane-requires : goal.held_by-plane-requires
held_by-plane-requires c = (c.requires.third, plane-lt (goal.at.held_by-plane-requires c).After-natural-o)

-- what the coordinates have
abbrev o : (c : After-held_by-plane) → ℕ
o c =
    nat c.args.processor

near : (c : After-held_by-plane) → c.held_by-near.result ≡ held_by c.args.x.first c.args.sizes.first.now ((o c) % (c.args.x.first.layout.processors))
near c =
    c.held_by-near.ensures.value ∙ ap (λ (i : ℕ). held_by c.args.x.first c.args.sizes.first.now (i % (c.args.x.first.layout.processors))) ((read_of w64 nat c.args.processor c.ranges.processor c.natural-o.ensures))

row : (c : After-held_by-plane) → c.held_by-row.result ≡ held_by c.args.x.second c.args.sizes.second.now ((o c) / (c.args.x.first.layout.processors) % (c.args.x.second.layout.processors))
row c =
    c.held_by-row.ensures.value ∙ ap (λ (i : ℕ). held_by c.args.x.second c.args.sizes.second.now (i / (c.args.x.first.layout.processors) % (c.args.x.second.layout.processors))) ((read_of w64 nat c.args.processor c.ranges.processor c.natural-o.ensures))

plane : (c : After-held_by-plane) → c.held_by-plane.result ≡ held_by c.args.x.third c.args.sizes.third.now ((o c) / (c.args.x.first.layout.processors) / (c.args.x.second.layout.processors))
plane c =
    c.held_by-plane.ensures.value ∙ ap (λ (i : ℕ). held_by c.args.x.third c.args.sizes.third.now (i / (c.args.x.first.layout.processors) / (c.args.x.second.layout.processors))) ((read_of w64 nat c.args.processor c.ranges.processor c.natural-o.ensures))

pub found_among-requires : goal.found_among-requires
found_among-requires c =
    let u = held-known c.args.x.first c.args.sizes.first.now c.requires.first _ c.held_by-near.result (near-lt (goal.at.found_among-requires c).After-natural-o) c.held_by-near.ensures.value c.held_by-near.ensures.low in
    let v = held-known c.args.x.second c.args.sizes.second.now c.requires.second _ c.held_by-row.result (row_lt (goal.at.found_among-requires c).After-natural-o) c.held_by-row.ensures.value c.held_by-row.ensures.low in
    let w = held-known c.args.x.third c.args.sizes.third.now c.requires.third _ c.held_by-plane.result (plane-lt (goal.at.found_among-requires c).After-natural-o) c.held_by-plane.ensures.value c.held_by-plane.ensures.low in
    let high = held_high c.args.x c.args.sizes.first.now c.args.sizes.second.now c.args.sizes.third.now c.requires c.args.processor (yes (goal.at.found_among-requires c).After-natural-o) in
    record { held_known = u; held_known_2 = v; held_known_3 = w; elements_bound = subst (λ (i : ℕ). i ≤ 2147483647) (sym (λ i. (near (goal.at.found_among-requires c).After-held_by-plane i).elements * ((row (goal.at.found_among-requires c).After-held_by-plane i).elements * (plane (goal.at.found_among-requires c).After-held_by-plane i).elements))) high }

pub returns : goal.returns
returns c =
    let e = to_z-of_z w64 c.args.address c.ranges.address in record {
      result_value = c.found_among.ensures.result_value
          ∙ (λ t. found_among c.args.x (near (goal.at.returns c).After-held_by-plane t) (row (goal.at.returns c).After-held_by-plane t) (plane (goal.at.returns c).After-held_by-plane t) (e t))
          ∙ found-so c.args.x c.args.sizes.first.now c.args.sizes.second.now c.args.sizes.third.now c.requires c.args.processor (yes (goal.at.returns c).After-natural-o) c.args.address;
      told_apart = c.found_among.ensures.told_apart;
    }
