-- `owned_on` meets its contract.
use Rattle.std.proofs.Common.{rules}
use mathlib.Core.Path.{◌≡◌, sym, ap, ◌∙◌}
use mathlib.Core.Bool.{true, ◌&&◌}
use native.Mathlib.Omega.{arith}
use lib.IntN.{ℤ}
use mir.Syntax.{w64}
use mir.ValLaws.{to_z-of_z}
use Rattle.grid.specs.Dimensions.{array_in}
use Rattle.grid.specs.Answers.{numbered, has_index, from_lower_in, kept_in, ownership_on}
use Rattle.grid.proofs.ThreeLaws.{number-high}
use Rattle.grid.proofs.ElementLaws.{first-in, second-in, third-in, coordinates, some-held, address-high, owned-so}
use Rattle.grid.proofs.elements.owned_on.Goals as goal
use Rattle.grid.proofs.elements.owned_on.Goals.{After-kept_at-plane, Else-not-are_indices}

pub returns-then-not-are_indices : goal.returns-then-not-are_indices
unfolding ownership_on
returns-then-not-are_indices c = record { result_value = rw (sym c.are_indices.ensures ∙ c.if-not-are_indices.true); told_apart = (omega arith, tt) }

yes : (c : Else-not-are_indices) → (has_index c.args.x.first c.args.j.first && has_index c.args.x.second c.args.j.second && has_index c.args.x.third c.args.j.third) ≡ true
yes c = sym c.are_indices.ensures ∙ c.if-not-are_indices.false

pub kept_at-near-requires : goal.kept_at-near-requires
kept_at-near-requires c =
    rw (to_z-of_z w64 c.args.j.first (search rules))
    record { known = c.requires.first; index_value = first-in c.args.x c.args.sizes.first.now c.args.sizes.second.now c.args.sizes.third.now c.requires c.args.j.first c.args.j.second c.args.j.third (yes (goal.at.kept_at-near-requires c).Else-not-are_indices) }

pub kept_at-row-requires : goal.kept_at-row-requires
kept_at-row-requires c =
    rw (to_z-of_z w64 c.args.j.second (search rules))
    record { known = c.requires.second; index_value = second-in c.args.x c.args.sizes.first.now c.args.sizes.second.now c.args.sizes.third.now c.requires c.args.j.first c.args.j.second c.args.j.third (yes (goal.at.kept_at-row-requires c).Else-not-are_indices) }

pub kept_at-plane-requires : goal.kept_at-plane-requires
kept_at-plane-requires c =
    rw (to_z-of_z w64 c.args.j.third (search rules))
    record { known = c.requires.third; index_value = third-in c.args.x c.args.sizes.first.now c.args.sizes.second.now c.args.sizes.third.now c.requires c.args.j.first c.args.j.second c.args.j.third (yes (goal.at.kept_at-plane-requires c).Else-not-are_indices) }

-- where each dimension has it
near : (c : After-kept_at-plane) → c.kept_at-near.result ≡ kept_in (array_in c.args.x.first c.args.sizes.first.now) (from_lower_in c.args.x.first c.args.j.first)
near c =
    c.kept_at-near.ensures
    ∙ ap (λ (z : ℤ). kept_in (array_in c.args.x.first c.args.sizes.first.now) (from_lower_in c.args.x.first z)) (to_z-of_z w64 c.args.j.first (search rules))

row : (c : After-kept_at-plane) → c.kept_at-row.result ≡ kept_in (array_in c.args.x.second c.args.sizes.second.now) (from_lower_in c.args.x.second c.args.j.second)
row c =
    c.kept_at-row.ensures
    ∙ ap (λ (z : ℤ). kept_in (array_in c.args.x.second c.args.sizes.second.now) (from_lower_in c.args.x.second z)) (to_z-of_z w64 c.args.j.second (search rules))

plane : (c : After-kept_at-plane) → c.kept_at-plane.result ≡ kept_in (array_in c.args.x.third c.args.sizes.third.now) (from_lower_in c.args.x.third c.args.j.third)
plane c =
    c.kept_at-plane.ensures
    ∙ ap (λ (z : ℤ). kept_in (array_in c.args.x.third c.args.sizes.third.now) (from_lower_in c.args.x.third z)) (to_z-of_z w64 c.args.j.third (search rules))

pub numbered-requires : goal.numbered-requires
numbered-requires c =
    let low = coordinates c.args.x c.args.sizes.first.now c.args.sizes.second.now c.args.sizes.third.now c.requires c.args.j.first c.args.j.second c.args.j.third (yes (goal.at.numbered-requires c).Else-not-are_indices) in
    rw (near (goal.at.numbered-requires c).After-kept_at-plane, row (goal.at.numbered-requires c).After-kept_at-plane, plane (goal.at.numbered-requires c).After-kept_at-plane) (
      c.requires.first.ranged.0.processors-pos,
      number-high (omega arith) c.requires.first.ranged.0.processors-high (omega arith) c.requires.second.ranged.0.processors-high (omega arith),
    )

pub numbered-requires-2 : goal.numbered-requires-2
numbered-requires-2 c =
    rw (near (goal.at.numbered-requires-2 c).After-kept_at-plane, row (goal.at.numbered-requires-2 c).After-kept_at-plane, plane (goal.at.numbered-requires-2 c).After-kept_at-plane) (
      some-held c.args.x c.args.sizes.first.now c.args.sizes.second.now c.args.sizes.third.now c.requires c.args.j.first c.args.j.second c.args.j.third (yes (goal.at.numbered-requires-2 c).Else-not-are_indices),
      address-high c.args.x c.args.sizes.first.now c.args.sizes.second.now c.args.sizes.third.now c.requires c.args.j.first c.args.j.second c.args.j.third (yes (goal.at.numbered-requires-2 c).Else-not-are_indices),
    )

pub returns : goal.returns
returns c =
    let owner = c.numbered.ensures ∙ (λ t. numbered (near (goal.at.returns c).After-kept_at-plane t).processor c.args.x.first.layout.processors (row (goal.at.returns c).After-kept_at-plane t).processor c.args.x.second.layout.processors (plane (goal.at.returns c).After-kept_at-plane t).processor) in
    let address = c.numbered-2.ensures ∙ (λ t. numbered (near (goal.at.returns c).After-kept_at-plane t).address.0 (near (goal.at.returns c).After-kept_at-plane t).elements (row (goal.at.returns c).After-kept_at-plane t).address.0 (row (goal.at.returns c).After-kept_at-plane t).elements (plane (goal.at.returns c).After-kept_at-plane t).address.0) in record {
      result_value = (λ t. record { refusal = 0; processor = owner t; address = address t })
          ∙ owned-so c.args.x c.args.sizes.first.now c.args.sizes.second.now c.args.sizes.third.now c.requires c.args.j.first c.args.j.second c.args.j.third (yes (goal.at.returns c).Else-not-are_indices);
      told_apart = tt;
    }
