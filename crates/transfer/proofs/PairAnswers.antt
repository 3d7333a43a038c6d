-- The answer to the questions of a pair, from those about its two sections.
use Prim.Native.Nat.{ℕ}
use mathlib.Core.Path.{◌≡◌, refl, sym, ◌∙◌, subst}
use mathlib.Core.Bool.{Bool, true, false}
use mathlib.Core.List.{List, ◌∷◌, ◌++◌}
use native.Mathlib.Omega.{arith}
use borrow.Author.Tests.{eqb-true, eqb-false, ne_eqb}
use lib.Dec.{eqb}
use lib.IntN.{ℤ}
use Rattle.std.specs.Prelude.{Ok, Err}
use Rattle.model.specs.Mappings.{Section}
use Rattle.model.specs.Ownership.{layout_of}
use Rattle.model.specs.Sections.{layout, count}
use Rattle.model.specs.Questions.{Question, ask, first_no, AllYes, is_below, of_section, of_processor}
use Rattle.model.specs.Transfers.{of_counts, of_pair}
use Rattle.model.proofs.QuestionLaws.{all_yes, asks-on, both_yes, stops, below-is}
use Rattle.model.proofs.AcceptedLaws.{mapping-yes, whole-mapping}
use Rattle.section.specs.declared.questions.Strided.{Strided}
use Rattle.section.specs.Strides.{strided_of}
use Rattle.section.specs.Answers.{asked_of}
use Rattle.section.proofs.CallAnswers.{passed, stopped}
use Rattle.transfer.specs.declared.questions.Pair.{Pair}
use Rattle.transfer.specs.Pairs.{of_ends, pair_of, pair_asked, Fit}

module _ (left right : Section) (q m : ℤ) where
  -- what is asked after the left's questions, and after the right's
  abbrev ends : List Question
  ends = of_processor right.mapping q ++ of_processor left.mapping m ++ of_counts (count left) (count right)

  -- e is the first no
  pub refused-by : (e : ℕ) → (e ≡ 0 → ⊥) → e ≡ first_no (of_pair left right q m) → Err e ≡ pair_asked left right q m
  unfolding pair_asked
  refused-by e some f = rw (← f, ne_eqb e 0 some)

  -- there is none
  pub paired : first_no (of_pair left right q m) ≡ 0 → Ok (pair_of left right q m) ≡ pair_asked left right q m
  unfolding pair_asked
  paired f = rw f

  -- the left is refused
  pub left-refused : (e : ℕ) → asked_of left ≡ Err e → Err e ≡ pair_asked left right q m
  left-refused e r =
      let s = stopped left e r in
      refused-by e s.some (sym (stops (of_section left) (of_section right ++ ends) (λ z. s.some (sym s.first ∙ z)) ∙ s.first))

  module _ (x : Strided) (l : asked_of left ≡ Ok x) where
    after-left : first_no (of_pair left right q m) ≡ first_no (of_section right ++ ends)
    after-left = asks-on (of_section left) (of_section right ++ ends) (all_yes (of_section left) refl (passed left x l).none)

    -- the right is refused
    pub right-refused : (e : ℕ) → asked_of right ≡ Err e → Err e ≡ pair_asked left right q m
    right-refused e r =
        let s = stopped right e r in
        refused-by e s.some (sym (after-left ∙ stops (of_section right) ends (λ z. s.some (sym s.first ∙ z)) ∙ s.first))

    -- both pass: the numbers of processors are the layouts'
    pub both-accepted : (y : Strided) → asked_of right ≡ Ok y → first_no (of_ends x y q m) ≡ first_no (of_pair left right q m)
    unfolding strided_of layout
    both-accepted y r =
        let a = passed left x l in
        let b = passed right y r in
        let n = (whole-mapping left.mapping (mapping-yes left a.none)).processors in
        let k = (whole-mapping right.mapping (mapping-yes right b.none)).processors in
        (λ i. first_no (of_ends (a.strided i) (b.strided i) q m))
        ∙ sym (after-left ∙ asks-on (of_section right) ends (all_yes (of_section right) refl b.none)
        ∙ (λ i. first_no (ask 8 (is_below (k i) q) ∷ ask 8 (is_below (n i) m) ∷ of_counts (count left) (count right))))

-- ---- a pair that passed

pub record Passed (left right : Section) (q m : ℤ) (p : Pair) : Type 0 where
  pub none : first_no (of_pair left right q m) ≡ 0
  pub left-none : first_no (of_section left) ≡ 0
  pub right-none : first_no (of_section right) ≡ 0
  pub counts : count left ≡ count right
  pub pair : p ≡ pair_of left right q m

module _ (left right : Section) (q m : ℤ) where
  -- no question is answered no
  module _ (none : first_no (of_pair left right q m) ≡ 0) where
    on-left : (first_no (of_section left) ≡ 0) × (first_no (of_section right ++ ends left right q m) ≡ 0)
    on-left = both_yes (of_section left) (of_section right ++ ends left right q m) refl none

    on-right : (first_no (of_section right) ≡ 0) × (first_no (ends left right q m) ≡ 0)
    on-right = both_yes (of_section right) (ends left right q m) refl on-left.1

    on-ends : AllYes (ends left right q m)
    on-ends = all_yes (ends left right q m) refl on-right.1

    same_count : count left ≡ count right
    same_count = eqb-true (count left) (count right) on-ends.1.1.0

    fits : Fit (pair_of left right q m)
    unfolding strided_of layout layout_of
    fits =
        record {
          first = record { whole = right; none = on-right.0; share = refl; processor = (below-is q right.mapping.processors on-ends.0).below };
          second = record { whole = left; none = on-left.0; share = refl; processor = (below-is m left.mapping.processors on-ends.1.0).below };
          counts = same_count;
        }

  module _ (p : Pair) (e : pair_asked left right q m ≡ Ok p) where
    pub pair-passed : Passed left right q m p
    unfolding pair_asked
    pair-passed = go (eqb (first_no (of_pair left right q m)) 0) refl
      where
        go : (b : Bool) → eqb (first_no (of_pair left right q m)) 0 ≡ b → Passed left right q m p
        go true z =
            let n = eqb-true (first_no (of_pair left right q m)) 0 z in
            record { none = n; left-none = (on-left n).0; right-none = (on-right n).0; counts = same_count n; pair = let g = rw z at e in cc }
        go false z = absurd (let f = rw z at e in let one : ◌≡◌ {A = ℕ} 0 1 = cc in omega arith)

    pub pair_fits : Fit p
    pair_fits = subst Fit (sym pair-passed.pair) (fits pair-passed.none)

  -- one of them is
  pub pair-stopped : (e : ℕ) → pair_asked left right q m ≡ Err e → (first_no (of_pair left right q m) ≡ e) × (e ≡ 0 → ⊥)
  unfolding pair_asked
  pair-stopped e r = go (eqb (first_no (of_pair left right q m)) 0) refl
    where
      go : (b : Bool) → eqb (first_no (of_pair left right q m)) 0 ≡ b → (first_no (of_pair left right q m) ≡ e) × (e ≡ 0 → ⊥)
      go true z = absurd (let f = rw z at r in let one : ◌≡◌ {A = ℕ} 0 1 = cc in omega arith)
      go false z =
          let f : first_no (of_pair left right q m) ≡ e = let g = rw z at r in cc in
          (f, λ k. eqb-false (first_no (of_pair left right q m)) 0 z (f ∙ k))
