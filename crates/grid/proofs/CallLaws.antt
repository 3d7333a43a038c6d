-- A call's answer, from the questions about its grid and what is left to ask of the dimensions.
use Prim.Native.Nat.{ℕ}
use mathlib.Core.Path.{◌≡◌, refl, sym, ap, subst, ◌∙◌}
use mathlib.Core.Bool.{Bool, true, false, cond, ◌&&◌}
use mathlib.Core.List.{List, ◌++◌}
use lib.Dec.{eqb}
use lib.IntN.{ℤ, pos}
use borrow.Author.Tests.{ne_eqb}
use Rattle.std.proofs.Common.{Ok, Err}
use Rattle.model.specs.declared.three.Ranked.{Ranked}
use Rattle.model.specs.declared.Mapping as mappings
use Rattle.model.specs.Mappings.{Mapping}
use Rattle.model.specs.Ownership.{nat, from_lower, declared_index, layout_of, owner, rank, held, back_to}
use Rattle.model.specs.Questions.{Question, first_no, is_below, is_index}
use Rattle.model.specs.Calls.{OwnershipAnswer}
use Rattle.model.specs.declared.three.Three.{Three}
use Rattle.model.specs.Grids.{Grid, mappings_of, grid_with, grid_array, number_of, indices_of, of_grid, of_indices, of_grid_processor, of_grid_address}
use Rattle.model.specs.GridCalls.{indices_in, grid_ownership, GridBackAnswer, grid_going_back}
use Rattle.model.proofs.QuestionLaws.{all_yes, asks-on, stops}
use Rattle.model.proofs.GridAccepted.{InLimits, Mapped, mappings-yes, grid-limits}
use Rattle.mapping.specs.Answers.{no_owner}
use Rattle.grid.specs.Dimensions.{Dimensions}
use Rattle.grid.specs.Dimensions.{three_with, AllKnown, mappings_to, dimensions_with, gridded_of}
use Rattle.grid.specs.Answers.{indices_from, has_index, ownership_on, not_found, going_back_on}
use Rattle.grid.proofs.DimensionLaws.{known, same_index}
use Rattle.grid.proofs.AskLaws.{says-yes, says-no, mappings-to}

-- ---- what is left to ask of three mappings

owned : Three Mapping → Three ℤ → OwnershipAnswer
owned m j =
    let e = first_no (of_indices m j) in
    let holder : ℕ → ℕ = (grid_array m).owner in
    cond (eqb e 0) (record { refusal = 0; processor = holder (number_of m j); address = rank holder (number_of m j) }) (no_owner e)

found : Three Mapping → ℤ → ℤ → GridBackAnswer
found m q x =
    let e = first_no (of_grid_processor (grid_array m) q ++ of_grid_address (grid_array m) q x) in
    let i : ℕ = back_to (grid_array m).owner (grid_array m).size (nat q) (nat x) in
    cond (eqb e 0) (record { refusal = 0; indices = indices_of m i }) (not_found e)

module _ (g : Ranked mappings.Mapping) (b c d : List ℕ) where
  abbrev whole : Grid
  whole = grid_with g b c d

  abbrev three : Three Mapping
  three = three_with g.dimensions.first (mappings_to g).second (mappings_to g).third b c d

  -- ---- a grid that was refused

  module _ (e : ℕ) (r : gridded_of g b c d ≡ Err e) where
    pub record Stopped : Type 0 where
      pub first : first_no (of_grid whole) ≡ e
      pub some : e ≡ 0 → ⊥

    stopped : Stopped
    unfolding gridded_of
    stopped = let s = says-no _ (dimensions_with g b c d) e r in record { first = s.0; some = s.1 }

    refused-on : (rest : List Question) → first_no (of_grid whole ++ rest) ≡ e
    refused-on rest = stops (of_grid whole) rest (λ z. stopped.some (sym stopped.first ∙ z)) ∙ stopped.first

    pub ownership-refused : (j : Three ℤ) → no_owner e ≡ grid_ownership whole j
    unfolding grid_ownership
    ownership-refused j = rw (refused-on (of_indices (mappings_of whole) (indices_in whole j)), ne_eqb e 0 stopped.some)

    pub going-back-refused : (q x : ℤ) → not_found e ≡ grid_going_back whole q x
    unfolding grid_going_back
    going-back-refused q x =
        rw (refused-on (of_grid_processor (grid_array (mappings_of whole)) q ++ of_grid_address (grid_array (mappings_of whole)) q x), ne_eqb e 0 stopped.some)

  -- ---- a grid that passed

  pub record Passed (x : Dimensions) : Type 0 where
    pub none : first_no (of_grid whole) ≡ 0
    pub is : x ≡ dimensions_with g b c d

  pub passed : (x : Dimensions) → gridded_of g b c d ≡ Ok x → Passed x
  unfolding gridded_of
  passed x e = let s = says-yes _ (dimensions_with g b c d) x e in record { none = s.0; is = s.1 }

  module _ (ok : first_no (of_grid whole) ≡ 0) where
    each : Mapped three
    each = subst Mapped (mappings-to g b c d) (mappings-yes whole ok)

    limits : InLimits three
    limits = subst InLimits (mappings-to g b c d) (grid-limits whole ok)

    all_known : AllKnown (dimensions_with g b c d) b c d
    unfolding grid_array
    all_known = record {
      first = known g.dimensions.first b each.first;
      second = known (mappings_to g).second c each.second;
      third = known (mappings_to g).third d each.third;
      processors = limits.processors;
      size = limits.size;
    }

    asked-on : (rest : List Question) → first_no (of_grid whole ++ rest) ≡ first_no rest
    asked-on rest = asks-on (of_grid whole) rest (all_yes (of_grid whole) refl ok)

    -- question 9 of each dimension
    same_test : (r s t : ℤ)
        → (is_index three.first r && is_index three.second s && is_index three.third t)
        ≡ (has_index (dimensions_with g b c d).first r && has_index (dimensions_with g b c d).second s && has_index (dimensions_with g b c d).third t)
    same_test r s t =
        let u = same_index g.dimensions.first b each.first r in
        let v = same_index (mappings_to g).second c each.second s in
        let w = same_index (mappings_to g).third d each.third t in
        λ i. u i && v i && w i

    owned-by : (r s t : ℤ) → ownership_on (dimensions_with g b c d) b c d r s t ≡ owned three (indices_from r s t)
    unfolding ownership_on owned first_no grid_array number_of from_lower owner layout_of
    owned-by r s t = go _ refl
      where
        go : (v : Bool)
            → (has_index (dimensions_with g b c d).first r && has_index (dimensions_with g b c d).second s && has_index (dimensions_with g b c d).third t) ≡ v
            → ownership_on (dimensions_with g b c d) b c d r s t ≡ owned three (indices_from r s t)
        go true e = rw (same_test r s t, e)
        go false e = rw (same_test r s t, e)

    ownership-so : (j : Three ℤ) → grid_ownership whole j ≡ owned three (indices_in whole j)
    unfolding grid_ownership owned
    ownership-so j =
        rw (asked-on (of_indices (mappings_of whole) (indices_in whole j)))
        (ap (λ (m : Three Mapping). owned m (indices_in whole j)) (mappings-to g b c d))

    found-by : (q x : ℤ) → going_back_on (dimensions_with g b c d) b c d q x ≡ found three q x
    unfolding going_back_on found first_no grid_array indices_of declared_index owner layout_of
    found-by q x = go _ refl _ refl
      where
        go : (v : Bool) → is_below (pos (grid_array three).processors) q ≡ v
            → (w : Bool) → is_below (pos (held (grid_array three).owner (grid_array three).size (nat q))) x ≡ w
            → going_back_on (dimensions_with g b c d) b c d q x ≡ found three q x
        go true e true f = rw (e, f)
        go true e false f = rw (e, f)
        go false e w f = rw e

    going-back-so : (q x : ℤ) → grid_going_back whole q x ≡ found three q x
    unfolding grid_going_back found
    going-back-so q x =
        rw (asked-on (of_grid_processor (grid_array (mappings_of whole)) q ++ of_grid_address (grid_array (mappings_of whole)) q x))
        (ap (λ (m : Three Mapping). found m q x) (mappings-to g b c d))

  module _ (x : Dimensions) (e : gridded_of g b c d ≡ Ok x) where
    pub known_by : AllKnown x b c d
    known_by = let p = passed x e in subst (λ (y : Dimensions). AllKnown y b c d) (sym p.is) (all_known p.none)

    pub ownership-by : (j : Three ℤ)
        → ownership_on x b c d (indices_in whole j).first (indices_in whole j).second (indices_in whole j).third ≡ grid_ownership whole j
    ownership-by j =
        let p = passed x e in
        let k : Three ℤ = indices_in whole j in
        ap (λ (y : Dimensions). ownership_on y b c d k.first k.second k.third) p.is
        ∙ owned-by p.none k.first k.second k.third
        ∙ sym (ownership-so p.none j)

    pub going-back-by : (q a : ℤ) → going_back_on x b c d q a ≡ grid_going_back whole q a
    going-back-by q a =
        let p = passed x e in
        ap (λ (y : Dimensions). going_back_on y b c d q a) p.is ∙ found-by p.none q a ∙ sym (going-back-so p.none q a)
