-- The answer to the questions of one mapping, of three, and of a grid, from the answers put one after the other.
use Prim.Native.Nat.{ℕ}
use mathlib.Core.Path.{◌≡◌, refl, sym, ap, subst, ◌∙◌}
use mathlib.Core.Bool.{Bool, true, false, cond, ◌&&◌}
use mathlib.Core.List.{List, ◌++◌}
use native.Mathlib.Omega.{arith}
use lib.Dec.{leb, eqb}
use lib.IntN.{pos}
use lib.Signed.{le_z}
use borrow.Author.Tests.{eq-eqb, ne_eqb, eqb-true, eqb-false}
use Rattle.std.proofs.Common.{Result, Ok, Err}
use Rattle.model.specs.declared.Mapping as mappings
use Rattle.model.specs.declared.three.Ranked.{Ranked}
use Rattle.model.specs.Mappings.{Mapping, mapping_with}
use Rattle.model.specs.Questions.{Question, first_no, Passes, between, of_mapping}
use Rattle.model.specs.declared.three.Three.{Three}
use Rattle.model.specs.Grids.{single, mappings_of, grid_with, grid_array, of_rank, of_mappings, of_products, of_grid}
use Rattle.model.proofs.QuestionLaws.{all_yes, asks-on, stops}
use Rattle.grid.specs.declared.dimensions.Dimension.{Dimension}
use Rattle.grid.specs.Ranks.{single_numbers}
use Rattle.grid.specs.Dimensions.{dimension_with, asked_of, Known, three_with, dimensions_by, three_of, mappings_to, gridded_of}
use Rattle.grid.proofs.DimensionLaws.{known}

-- ---- an answer by the first question that is answered no: what each case says

module _ {A : Type 0} (e : ℕ) (a : A) where
  abbrev answer : Result A ℕ
  answer = cond (eqb e 0) (Ok a) (Err e)

  pub says-yes : (b : A) → answer ≡ Ok b → (e ≡ 0) × (b ≡ a)
  says-yes b f = go (eqb e 0) refl
    where
      go : (t : Bool) → eqb e 0 ≡ t → (e ≡ 0) × (b ≡ a)
      go true p = let g = rw p at f in (eqb-true e 0 p, cc)
      go false p = absurd (let g = rw p at f in let z : ◌≡◌ {A = ℕ} 0 1 = cc in omega arith)

  pub says-no : (q : ℕ) → answer ≡ Err q → (e ≡ q) × (q ≡ 0 → ⊥)
  says-no q f = go (eqb e 0) refl
    where
      go : (t : Bool) → eqb e 0 ≡ t → (e ≡ q) × (q ≡ 0 → ⊥)
      go true p = absurd (let g = rw p at f in let z : ◌≡◌ {A = ℕ} 0 1 = cc in omega arith)
      go false p = let same : e ≡ q = let g = rw p at f in cc in (same, λ z. eqb-false e 0 p (same ∙ z))

-- ---- one mapping

module _ (m : mappings.Mapping) (sizes : List ℕ) where
  pub asked_by : Passes (mapping_with m sizes) → Ok (dimension_with m sizes) ≡ asked_of m sizes
  unfolding asked_of
  asked_by ok = rw (eq-eqb _ 0 ok)

  pub asked-refused : (e : ℕ) → first_no (of_mapping (mapping_with m sizes)) ≡ e → (e ≡ 0 → ⊥) → Err e ≡ asked_of m sizes
  unfolding asked_of
  asked-refused e f g = rw (f, ne_eqb e 0 g)

  pub record Passed (x : Dimension) : Type 0 where
    pub none : Passes (mapping_with m sizes)
    pub is : x ≡ dimension_with m sizes

  pub passed : (x : Dimension) → asked_of m sizes ≡ Ok x → Passed x
  unfolding asked_of
  passed x e = let s = says-yes _ (dimension_with m sizes) x e in record { none = s.0; is = s.1 }

  pub passed-known : {x : Dimension} → Passed x → Known x sizes
  passed-known p = subst (λ (y : Dimension). Known y sizes) (sym p.is) (known m sizes p.none)

  pub record Stopped (e : ℕ) : Type 0 where
    pub first : first_no (of_mapping (mapping_with m sizes)) ≡ e
    pub some : e ≡ 0 → ⊥

  pub stopped : (e : ℕ) → asked_of m sizes ≡ Err e → Stopped e
  unfolding asked_of
  stopped e f = let s = says-no _ (dimension_with m sizes) e f in record { first = s.0; some = s.1 }

-- ---- three

module _ (m n o : mappings.Mapping) (b c d : List ℕ) where
  abbrev three : Three Mapping
  three = three_with m n o b c d

  abbrev questions : List Question
  questions = of_mappings three ++ of_products three

  refused-with : (e : ℕ) → first_no questions ≡ e → (e ≡ 0 → ⊥) → Err e ≡ three_of m n o b c d
  unfolding three_of
  refused-with e f g = rw (f, ne_eqb e 0 g)

  -- where xs stop, what comes after is not asked
  stop-there : {e : ℕ} (xs ys : List Question) → first_no xs ≡ e → (e ≡ 0 → ⊥) → first_no (xs ++ ys) ≡ e
  stop-there xs ys f g = stops xs ys (λ z. g (sym f ∙ z)) ∙ f

  pub first-refused : (e : ℕ) → Stopped m b e → Err e ≡ three_of m n o b c d
  first-refused e s =
      refused-with e (stop-there (of_mapping three.first) (of_mapping three.second ++ of_mapping three.third ++ of_products three) s.first s.some) s.some

  module _ (first : Passes three.first) where
    after_first : first_no questions ≡ first_no (of_mapping three.second ++ of_mapping three.third ++ of_products three)
    after_first =
        asks-on (of_mapping three.first) (of_mapping three.second ++ of_mapping three.third ++ of_products three)
        (all_yes (of_mapping three.first) refl first)

    pub second-refused : (e : ℕ) → Stopped n c e → Err e ≡ three_of m n o b c d
    second-refused e s =
        refused-with e (after_first ∙ stop-there (of_mapping three.second) (of_mapping three.third ++ of_products three) s.first s.some) s.some

    module _ (second : Passes three.second) where
      after-second : first_no questions ≡ first_no (of_mapping three.third ++ of_products three)
      after-second =
          after_first
          ∙ asks-on (of_mapping three.second) (of_mapping three.third ++ of_products three) (all_yes (of_mapping three.second) refl second)

      pub third-refused : (e : ℕ) → Stopped o d e → Err e ≡ three_of m n o b c d
      third-refused e s =
          refused-with e (after-second ∙ stop-there (of_mapping three.third) (of_products three) s.first s.some) s.some

      module _ (third : Passes three.third) where
        abbrev fit : Bool
        fit = leb (grid_array three).processors 1024 && leb (grid_array three).size 2147483647

        after-third : first_no questions ≡ first_no (of_products three)
        after-third = after-second ∙ asks-on (of_mapping three.third) (of_products three) (all_yes (of_mapping three.third) refl third)

        pub products-refused : fit ≡ false → Err 17 ≡ three_of m n o b c d
        unfolding first_no
        products-refused e = refused-with 17 (after-third ∙ rw e) (λ z. omega arith)

        pub all-passed : fit ≡ true → Ok (dimensions_by m n o b c d) ≡ three_of m n o b c d
        unfolding three_of first_no
        all-passed e = let f : first_no questions ≡ 0 = after-third ∙ rw e in rw (eq-eqb _ 0 f)

-- ---- a grid

-- a mapping past the rank
mapping-to : (t : Bool) (m : mappings.Mapping) (sizes : List ℕ) → cond t (mapping_with m sizes) single ≡ mapping_with (cond t m single_numbers) sizes
mapping-to true m sizes = refl
mapping-to false m sizes = refl

module _ (g : Ranked mappings.Mapping) (b c d : List ℕ) where
  abbrev second : mappings.Mapping
  second = (mappings_to g).second

  abbrev third : mappings.Mapping
  third = (mappings_to g).third

  pub mappings-to : mappings_of (grid_with g b c d) ≡ three_with g.dimensions.first second third b c d
  unfolding mappings_of
  mappings-to = λ i. record {
    first = mapping_with g.dimensions.first b;
    second = mapping-to (le_z (pos 2) g.rank) g.dimensions.second c i;
    third = mapping-to (le_z (pos 3) g.rank) g.dimensions.third d i;
  }

  pub rank-refused : between (pos 1) (pos 3) g.rank ≡ false → Err 17 ≡ gridded_of g b c d
  unfolding gridded_of first_no
  rank-refused e = rw e

  pub rank-passed : between (pos 1) (pos 3) g.rank ≡ true → three_of g.dimensions.first second third b c d ≡ gridded_of g b c d
  unfolding gridded_of three_of
  rank-passed e =
      let f : first_no (of_grid (grid_with g b c d)) ≡ first_no (of_mappings (three_with g.dimensions.first second third b c d) ++ of_products (three_with g.dimensions.first second third b c d)) =
      asks-on (of_rank g.rank) (of_mappings (mappings_of (grid_with g b c d)) ++ of_products (mappings_of (grid_with g b c d))) (e, tt)
      ∙ ap (λ (m : Three Mapping). first_no (of_mappings m ++ of_products m)) mappings-to in
      rw f
