-- The answers of this crate: what is left to ask of accepted dimensions, and each case read as document 02's numbers.
-- Definitions only.
use Rattle.std.specs.Prelude.{ℕ, ◌*◌, ◌/◌, ◌%◌, ◌<◌, ◌≡◌, Bool, cond, ◌&&◌, List, ℤ, pos, ◌+ℤ◌, ◌-ℤ◌, Result, Ok, Err}
use Rattle.model.specs.Mappings.{dealing_with}
use Rattle.model.specs.Ownership.{nat, rank, held, back_to}
use Rattle.model.specs.Questions.{between, is_below}
use Rattle.model.specs.Calls.{OwnershipAnswer}
use Rattle.model.specs.Axes.{Array, paired}
use Rattle.model.specs.declared.three.Three.{Three}
use Rattle.model.specs.GridCalls.{GridBackAnswer, zeros}
use Rattle.model.specs.declared.refusals.Refusal.{Refusal}
use Rattle.model.specs.Refusals.{number}
use Rattle.mapping.specs.Answers.{Ranged, no_owner}
use Rattle.mapping.specs.Parts.{Low, part_in, held_in, found_in}
use Rattle.grid.specs.declared.dimensions.Dimension.{Dimension}
use Rattle.grid.specs.declared.elements.Kept.{Kept}
use Rattle.grid.specs.declared.elements.Held.{Held}
use Rattle.model.specs.declared.Declared.{Declared}
use Rattle.grid.specs.Dimensions.{Dimensions, grid_in}

-- three declared indices
abbrev pub indices_from : ℤ → ℤ → ℤ → Three ℤ
indices_from i j k = record { first = i; second = j; third = k }

-- three numbers as one, first fastest, of n and m
abbrev pub numbered : ℕ → ℕ → ℕ → ℕ → ℕ → ℕ
numbered x n y m z = paired n x (paired m y z)

-- ---- ownership

-- 9, of one dimension
abbrev pub has_index : Dimension → ℤ → Bool
has_index x j = between x.lower (x.lower +ℤ pos x.layout.size -ℤ pos 1) j

-- its index that counts from 0
abbrev pub from_lower_in : Dimension → ℤ → ℕ
from_lower_in x j = nat (j -ℤ x.lower)

-- where an element of it is kept
abbrev pub kept_in : Array → ℕ → Kept
kept_in a i = record { processor = a.owner i; address = record { 0 = rank a.owner i }; elements = held a.owner a.size (a.owner i) }

unfoldable pub ownership_on : Dimensions → List ℕ → List ℕ → List ℕ → ℤ → ℤ → ℤ → OwnershipAnswer
ownership_on x b c d i j k =
    let owner : ℕ → ℕ = (grid_in x b c d).owner in
    let e : ℕ =
    numbered (from_lower_in x.first i) x.first.layout.size (from_lower_in x.second j) x.second.layout.size
    (from_lower_in x.third k) in
    cond (has_index x.first i && has_index x.second j && has_index x.third k)
    (record { refusal = 0; processor = owner e; address = rank owner e })
    (no_owner 9)

-- ---- going back

abbrev pub not_found : ℕ → GridBackAnswer
not_found e = record { refusal = e; indices = zeros }

abbrev pub found_as : Result (Three Declared) Refusal → GridBackAnswer
found_as (Ok x) = record { refusal = 0; indices = indices_from x.first.0 x.second.0 x.third.0 }
found_as (Err e) = not_found (number e)

-- what coordinate q has of a dimension
abbrev pub held_by : Dimension → List ℕ → ℕ → Held
held_by x sizes q =
    let part = part_in (dealing_with x.dealing sizes) q in
    record { processor = q; part = part; elements = held_in x.layout q part }

-- what is known of it
pub record HeldKnown (x : Dimension) (h : Held) : Type 0 where
  pub ranged : Ranged x.layout x.lower
  pub processor : h.processor < x.layout.processors
  pub low : Low h.part
  pub elements : h.elements ≡ held_in x.layout h.processor h.part

-- the declared index of the element at an address there
abbrev pub index_in : Dimension → Held → ℕ → ℤ
index_in x h a = x.lower +ℤ pos (found_in x.layout h.processor h.part a)

-- 9, of an address over what three coordinates have
unfoldable pub found_among : Dimensions → Held → Held → Held → ℤ → GridBackAnswer
found_among x near row plane a =
    let rest : ℕ = nat a / near.elements in
    let indices : Three ℤ =
    indices_from (index_in x.first near (nat a % near.elements)) (index_in x.second row (rest % row.elements))
    (index_in x.third plane (rest / row.elements)) in
    cond (is_below (pos (near.elements * (row.elements * plane.elements))) a) (record { refusal = 0; indices = indices }) (not_found 9)

-- the declared indices of element i of three dimensions
abbrev pub indices_by : Dimensions → ℕ → Three ℤ
indices_by x i =
    let rest : ℕ = i / x.first.layout.size in
    indices_from (x.first.lower +ℤ pos (i % x.first.layout.size)) (x.second.lower +ℤ pos (rest % x.second.layout.size))
    (x.third.lower +ℤ pos (rest / x.second.layout.size))

-- 8 and 9
unfoldable pub going_back_on : Dimensions → List ℕ → List ℕ → List ℕ → ℤ → ℤ → GridBackAnswer
going_back_on x b c d q a =
    let owner : ℕ → ℕ = (grid_in x b c d).owner in
    let n : ℕ = (grid_in x b c d).size in
    let found : GridBackAnswer = record { refusal = 0; indices = indices_by x (back_to owner n (nat q) (nat a)) } in
    let asked = cond (is_below (pos (held owner n (nat q))) a) found (not_found 9) in
    cond (is_below (pos (grid_in x b c d).processors) q) asked (not_found 8)
