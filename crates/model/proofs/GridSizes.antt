-- How large the numbers are that the calls about a grid answer.
use Prim.Native.Nat.{ℕ, ◌*◌, ◌/◌, ◌%◌, ◌^◌, ◌<◌}
use mathlib.Core.Path.{refl}
use mathlib.Core.List.{◌++◌}
use native.Mathlib.Omega.{arith}
use lib.IntN.{ℤ, nat_abs}
use Rattle.model.specs.Mappings.{Mapping}
use Rattle.model.specs.Ownership.{nat, back_to}
use Rattle.model.specs.Filling.{fill_by}
use Rattle.model.specs.Axes.{Array, array_of, Axis, walk_on}
use Rattle.model.specs.declared.three.Three.{Three}
use Rattle.model.specs.Grids.{Grid, sections_of, mappings_of, grid_array, grid_axis, number_of, indices_of, of_grid, of_grid_processor, of_indices, of_grid_address}
use Rattle.model.specs.Calls.{OwnershipAnswer}
use Rattle.model.specs.GridCalls.{indices_in, of_grid_ownership, grid_ownership, GridBackAnswer, of_grid_back, grid_going_back, GridFill, of_grid_fill, grid_request_of, grid_fill}
use Rattle.model.proofs.QuestionLaws.{all_yes, both_yes, below-is}
use Rattle.model.proofs.AcceptedLaws.{index-small}
use Rattle.model.proofs.AnsweredLaws.{answered}
use Rattle.model.proofs.AddressLaws.{rank_lt, rank-back}
use Rattle.model.proofs.HeldLaws.{held-le}
use Rattle.model.proofs.NeighbourLaws.{cost-le, cost-some}
use Rattle.model.proofs.FillCalls.{answer-cases}
use Rattle.model.proofs.FillBounds.{Within, fill-within}
use Rattle.model.proofs.PairLaws.{first-lt, second_lt}
use Rattle.model.proofs.RowLaws.{next-within}
use Rattle.model.proofs.GridAccepted.{Mapped, mappings-yes, grid-limits}
use Rattle.model.proofs.GridWalks.{grid-walks}
use Rattle.model.proofs.GridFillCalls.{grid-passed}
use Rattle.model.proofs.GridDemand2Holds.{grid-dealt, grid-element}
use Rattle.model.proofs.GridAnswers.{indices-in}

-- ---- ownership, going back: below 2^31

pub grid-ownership-small : (g : Grid) (j : Three ℤ)
    → ((grid_ownership g j).refusal < 2 ^ 31) × ((grid_ownership g j).processor < 2 ^ 31) × ((grid_ownership g j).address < 2 ^ 31)
unfolding grid_ownership
grid-ownership-small g j =
    answered (λ (a : OwnershipAnswer). (a.refusal < 2 ^ 31) × (a.processor < 2 ^ 31) × (a.address < 2 ^ 31))
    (of_grid_ownership g j) refl _ _
    (λ none.
    let m : Three Mapping = mappings_of g in
    let a : Array = grid_array m in
    let k : Three ℤ = indices_in g j in
    let i : ℕ = number_of m k in
    let r = both_yes (of_grid g) (of_indices m k) refl none in
    let ok = mappings-yes g r.0 in
    let y = grid-element m ok k (indices-in g k r.1) in
    let l = grid-limits g r.0 in (
      omega arith,
      omega (arith, grid-dealt m ok i y.number, l.processors),
      omega (arith, rank_lt a.owner a.size (a.owner i) i y.number refl, held-le a.owner (a.owner i) a.size, l.size),
    ))
    (λ low. omega arith)

abbrev pub EachSmall : Three ℤ → Type 0
EachSmall j = (nat_abs j.first < 2 ^ 31) × (nat_abs j.second < 2 ^ 31) × (nat_abs j.third < 2 ^ 31)

-- the indices of an element lie between each dimension's bounds
indices-small : (m : Three Mapping) → Mapped m → (i : ℕ) → i < (grid_array m).size → EachSmall (indices_of m i)
unfolding grid_array indices_of
indices-small m ok i h =
    let n : ℕ = (array_of m.first).size in
    let b : ℕ = (array_of m.second).size in
    let c : ℕ = (array_of m.third).size in
    let r : ℕ = i / n in
    let l : r < b * c = second_lt n (b * c) i h in (
      omega (arith, index-small m.first ok.first (i % n) (first-lt n (b * c) i h)),
      omega (arith, index-small m.second ok.second (r % b) (first-lt b c r l)),
      omega (arith, index-small m.third ok.third (r / b) (second_lt b c r l)),
    )

pub grid-going-back-small : (g : Grid) (q x : ℤ) → ((grid_going_back g q x).refusal < 2 ^ 31) × EachSmall (grid_going_back g q x).indices
unfolding grid_going_back nat
grid-going-back-small g q x =
    answered (λ (a : GridBackAnswer). (a.refusal < 2 ^ 31) × EachSmall a.indices) (of_grid_back g q x) refl _ _
    (λ none.
    let m : Three Mapping = mappings_of g in
    let a : Array = grid_array m in
    let last = of_grid_processor a q ++ of_grid_address a q x in
    let r = both_yes (of_grid g) last refl none in
    let inside = (rank-back a.owner a.size (nat q) (nat x) (below-is x _ (all_yes last refl r.1).1.0).below).inside in
    (omega arith, indices-small m (mappings-yes g r.0) (back_to a.owner a.size (nat q) (nat x)) inside))
    (λ low. omega arith)

-- ---- fill

-- no more entries than tries, no more tries than the quota, and no place past the count
pub grid-fill-bounds : (c : GridFill) → Within 1000000 (grid_axis (sections_of c.section)).count (grid_fill c).filled
unfolding grid_fill grid_request_of grid_axis
grid-fill-bounds c =
    let s = sections_of c.section in
    let a : Axis = grid_axis s in
    answer-cases (walk_on a) (of_grid_fill c) (nat c.place) (nat c.quota) c.list (Within 1000000 a.count)
    (λ z.
    let y = grid-passed c z in
    let v : Within (nat c.quota) a.count (fill_by (walk_on a) (nat c.place) (nat c.quota) c.list) =
    fill-within (walk_on a) (λ t. cost-some s.first _) (λ t. cost-le s.first _) (next-within a (grid-walks c.section y.section))
    (nat c.place) (nat c.quota) c.list y.place in
    record { entries = v.entries; tries = omega (arith, v.tries, y.quota.upto); place = v.place })
    (record { entries = omega arith; tries = omega arith; place = omega arith })
