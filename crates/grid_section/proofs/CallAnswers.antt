-- What the public calls answer, from the answer to the questions about a section of a grid.
use Prim.Native.Nat.{ℕ}
use mathlib.Core.Path.{◌≡◌, refl, sym, ap, ◌∙◌, subst}
use mathlib.Core.Bool.{Bool, true, false, cond}
use mathlib.Core.List.{List, []}
use borrow.Author.Tests.{eq-eqb, ne_eqb}
use lib.Dec.{eqb}
use lib.IntN.{ℤ, pos}
use Rattle.std.proofs.Common.{Ok, Err}
use Rattle.model.specs.declared.Dealing as dealings
use Rattle.model.specs.declared.Dealing.TheVariants.{Cyclic, GenBlock}
use Rattle.model.specs.declared.Section as sections
use Rattle.model.specs.declared.three.Ranked.{Ranked}
use Rattle.model.specs.Mappings.{dealing_with, Section, section_with}
use Rattle.model.specs.Ownership.{nat}
use Rattle.model.specs.Sections.{layout, count}
use Rattle.model.specs.Steps.{steps_of}
use Rattle.model.specs.Questions.{first_no, is_below, of_section}
use Rattle.model.specs.Calls.{steps_report, PlaceAnswer}
use Rattle.model.specs.Axes.{first_on}
use Rattle.model.specs.declared.three.Three.{Three}
use Rattle.model.specs.Grids.{GridSection, sections_of, grid_section_with, grid_axis, of_grid_section, of_grid_processor}
use Rattle.model.specs.GridCalls.{GridStepsAnswer, grid_steps, of_grid_place, grid_first_place}
use Rattle.model.proofs.QuestionLaws.{all_yes, asks-on, stops, below-is}
use Rattle.mapping.specs.Parts.{Listed}
use Rattle.section.specs.Strides.{strided_of}
use Rattle.section.specs.Shares.{steps_for}
use Rattle.section.specs.Answers.{no_place}
use Rattle.section.specs.Answers as answers
use Rattle.section.proofs.ShareLaws.{steps-for}
use Rattle.section.proofs.CallAnswers as calls
use Rattle.grid.proofs.AskLaws.{says-yes, says-no}
use Rattle.grid_section.specs.declared.lines.Line.{Line}
use Rattle.grid_section.specs.Lines.{line_with, sections_to, lines_with, processors_on, asked_of, AllListed}
use Rattle.grid_section.specs.Shares.{shares_on, shares_in, shares_of, first_by}
use Rattle.grid_section.specs.Answers.{not_stepped, report_on, steps_on, first_place_on}
use Rattle.grid_section.proofs.LineLaws.{Accepted, accepted, sections_with, sections-with}
use Rattle.grid_section.proofs.ShareLaws.{first-are}

-- the steps of a dimension have nothing to do with its list
report-is : (x : sections.Section) (sizes : List ℕ)
    → (let s : Section = section_with x sizes in report_on (line_with x sizes) ≡ steps_report (count s) (steps_of s))
unfolding strided_of
report-is x sizes =
    let s : Section = section_with x sizes in
    ap (steps_report (count s)) (same x.mapping.dealing ∙ sym (steps-for s))
  where
    same : (d : dealings.Dealing) → steps_for (strided_of (section_with x sizes)) (dealing_with d []) ≡ steps_for (strided_of (section_with x sizes)) (dealing_with d sizes)
    same (Cyclic k) = refl
    same GenBlock = refl

-- the list of an accepted section passed question 16
list-fits : (s : Section) → first_no (of_section s) ≡ 0 → Listed (strided_of s).layout s.mapping.dealing
unfolding answers.asked_of
list-fits s ok = calls.listed s (strided_of s) (rw (eq-eqb (first_no (of_section s)) 0 ok))

module _ (x : Ranked sections.Section) (b c d : List ℕ) where
  abbrev g : GridSection
  g = grid_section_with x b c d

  -- ---- what the answer says of the questions

  pub record Passed (y : Three Line) : Type 0 where
    pub none : first_no (of_grid_section g) ≡ 0
    pub lines : y ≡ lines_with x b c d

  pub passed : (y : Three Line) → asked_of x b c d ≡ Ok y → Passed y
  unfolding asked_of
  passed y e = let s = says-yes _ (lines_with x b c d) y e in record { none = s.0; lines = s.1 }

  pub record Stopped (e : ℕ) : Type 0 where
    pub first : first_no (of_grid_section g) ≡ e
    pub some : e ≡ 0 → ⊥

  pub stopped : (e : ℕ) → asked_of x b c d ≡ Err e → Stopped e
  unfolding asked_of
  stopped q e = let s = says-no _ (lines_with x b c d) q e in record { first = s.0; some = s.1 }

  -- ---- what the lines of an accepted section have

  module _ {y : Three Line} (p : Passed y) where
    pub listed : AllListed y b c d
    listed =
        let a : Accepted (sections_with x b c d) = subst Accepted (sym (sections-with x b c d)) (accepted g p.none) in
        subst (λ (z : Three Line). AllListed z b c d) (sym p.lines)
        (record {
          first = list-fits (sections_with x b c d).first a.first;
          second = list-fits (sections_with x b c d).second a.second;
          third = list-fits (sections_with x b c d).third a.third;
        })

    pub processors-are : processors_on y ≡ (grid_axis (sections_of g)).array.processors
    unfolding grid_axis strided_of layout
    processors-are = ap processors_on p.lines ∙ ap (λ (s : Three Section). (grid_axis s).array.processors) (sections-with x b c d)

    pub shares-are : (q : ℕ) → shares_on y b c d q ≡ shares_of g q
    unfolding strided_of layout
    shares-are q =
        ap (λ (z : Three Line). shares_on z b c d q) p.lines ∙ ap (λ (s : Three Section). shares_in s q) (sections-with x b c d)

    -- question 8
    pub is-processor-are : (q : ℤ) → is_below (pos (processors_on y)) q ≡ is_below (pos (grid_axis (sections_of g)).array.processors) q
    is-processor-are q = ap (λ (n : ℕ). is_below (pos n) q) processors-are

  -- ---- section steps

  abbrev steps_in : Three Section → GridStepsAnswer
  steps_in s = record {
    refusal = 0;
    count = (grid_axis s).count;
    dimensions = record {
      first = steps_report (count s.first) (steps_of s.first);
      second = steps_report (count s.second) (steps_of s.second);
      third = steps_report (count s.third) (steps_of s.third);
    };
  }

  lines_steps : steps_on (lines_with x b c d) ≡ steps_in (sections_with x b c d)
  unfolding grid_axis strided_of
  lines_steps =
      λ i. record {
        refusal = 0;
        count = (grid_axis (sections_with x b c d)).count;
        dimensions = record {
          first = report-is x.dimensions.first b i;
          second = report-is (sections_to x).second c i;
          third = report-is (sections_to x).third d i;
        };
      }

  pub steps-by : (y : Three Line) → asked_of x b c d ≡ Ok y → steps_on y ≡ grid_steps g
  unfolding grid_steps
  steps-by y e =
      let p = passed y e in
      ap steps_on p.lines ∙ lines_steps ∙ ap steps_in (sections-with x b c d) ∙ sym (rw (eq-eqb (first_no (of_grid_section g)) 0 p.none))

  pub steps-refused : (q : ℕ) → asked_of x b c d ≡ Err q → not_stepped q ≡ grid_steps g
  unfolding grid_steps
  steps-refused q e = let s = stopped q e in rw (s.first, ne_eqb q 0 s.some)

  -- ---- first place

  module _ (q : ℤ) where
    -- the place t, unless question e was answered no
    answer : ℕ → ℕ → PlaceAnswer
    answer e t = cond (eqb e 0) (record { refusal = 0; place = t }) (no_place e)

    -- question 8 decides; only an accepted processor's place is worked out
    decided : (t : Bool) (a z : ℕ) → (t ≡ true → a ≡ z) → cond t (record { refusal = 0; place = a }) (no_place 8) ≡ answer (cond t 0 8) z
    unfolding answer
    decided true a z same = ap (λ (n : ℕ). record { refusal = 0; place = n }) (same refl)
    decided false a z same = refl

    eighth : first_no (of_grid_section g) ≡ 0
        → cond (is_below (pos (grid_axis (sections_of g)).array.processors) q) 0 8 ≡ first_no (of_grid_place g q)
    unfolding first_no
    eighth none =
        sym (asks-on (of_grid_section g) (of_grid_processor (grid_axis (sections_of g)).array q) (all_yes (of_grid_section g) refl none))

    pub place-by : (y : Three Line) → asked_of x b c d ≡ Ok y → first_place_on y b c d q ≡ grid_first_place g q
    unfolding first_place_on grid_first_place answer nat
    place-by y e =
        let p = passed y e in
        let n : ℕ = (grid_axis (sections_of g)).array.processors in
        let place : is_below (pos n) q ≡ true → first_by (shares_on y b c d (nat q)) ≡ first_on (grid_axis (sections_of g)) (nat q) =
        λ h. ap first_by (shares-are p (nat q)) ∙ sym (first-are g p.none (nat q) (below-is q (pos n) h).below) in
        ap (λ (t : Bool). cond t (record { refusal = 0; place = first_by (shares_on y b c d (nat q)) }) (no_place 8)) (is-processor-are p q)
        ∙ decided (is_below (pos n) q) (first_by (shares_on y b c d (nat q))) (first_on (grid_axis (sections_of g)) (nat q)) place
        ∙ ap (λ (k : ℕ). answer k (first_on (grid_axis (sections_of g)) (nat q))) (eighth p.none)

    pub place-refused : (e : ℕ) → asked_of x b c d ≡ Err e → no_place e ≡ grid_first_place g q
    unfolding grid_first_place
    place-refused e r =
        let s = stopped e r in
        let first : first_no (of_grid_place g q) ≡ e =
        stops (of_grid_section g) (of_grid_processor (grid_axis (sections_of g)).array q) (λ z. s.some (sym s.first ∙ z)) ∙ s.first in
        rw (first, ne_eqb e 0 s.some)
