-- What the public calls answer, from the answer to questions 1 to 7.
use Prim.Native.Nat.{ℕ}
use mathlib.Core.Path.{◌≡◌, refl, sym, ap, ◌∙◌, subst}
use mathlib.Core.Bool.{Bool, true, false, cond}
use mathlib.Core.List.{◌++◌}
use native.Mathlib.Omega.{arith}
use Rattle.std.proofs.lemmas.Grind.{common_steps}
use borrow.Author.Tests.{eq-eqb, ne_eqb}
use lib.Dec.{eqb}
use lib.IntN.{ℤ, pos}
use Rattle.model.specs.Mappings.{Section}
use Rattle.model.specs.Ownership.{nat, layout_of}
use Rattle.model.specs.Sections.{layout, first_place}
use Rattle.model.specs.Questions.{first_no, is_below, of_mapping, of_section, of_processor}
use Rattle.model.specs.Calls.{steps_report, section_steps, PlaceAnswer, first_place_at}
use Rattle.model.proofs.QuestionLaws.{all_yes, asks-on, stops}
use Rattle.model.proofs.AcceptedLaws.{mapping-yes, whole-mapping}
use Rattle.mapping.specs.Answers.{mapped_of}
use Rattle.mapping.specs.Parts.{part_in, Listed}
use Rattle.mapping.proofs.CallLaws.{listed_by}
use Rattle.section.specs.declared.questions.Strided.{Strided}
use Rattle.std.specs.Prelude.{Ok, Err}
use Rattle.section.specs.Strides.{strided_of}
use Rattle.section.specs.Shares.{share_in, place_by, steps_for}
use Rattle.section.specs.Answers.{asked_of, no_steps, no_place, first_place_in}
use Rattle.section.proofs.ShareLaws.{steps-for}
use Rattle.section.proofs.ShareLaws as shares

module _ (x : Section) where
  -- ---- what the answer says of the questions

  pub record Passed (w : Strided) : Type 0 where
    pub none : first_no (of_section x) ≡ 0
    pub strided : w ≡ strided_of x

  pub passed : (w : Strided) → asked_of x ≡ Ok w → Passed w
  unfolding asked_of
  passed w e = record { none = grind (arith, common_steps); strided = grind (arith, common_steps) }

  pub record Stopped (q : ℕ) : Type 0 where
    pub first : first_no (of_section x) ≡ q
    pub some : q ≡ 0 → ⊥

  pub stopped : (q : ℕ) → asked_of x ≡ Err q → Stopped q
  unfolding asked_of
  stopped q e = record { first = grind (arith, common_steps); some = λ z. grind (arith, common_steps) }

  -- its list passed question 16
  pub listed : (w : Strided) → asked_of x ≡ Ok w → Listed w.layout x.mapping.dealing
  unfolding mapped_of strided_of layout
  listed w e =
      let p = passed w e in
      let m = x.mapping in
      let by : mapped_of m ≡ Ok (record { layout = layout_of m; lower = m.lower }) = rw (eq-eqb (first_no (of_mapping m)) 0 (mapping-yes x p.none)) in
      subst (λ (v : Strided). Listed v.layout m.dealing) (sym p.strided) (listed_by m (record { layout = layout_of m; lower = m.lower }) by)

  -- ---- section steps

  pub steps-by : (w : Strided) → asked_of x ≡ Ok w → steps_report w.count (steps_for w x.mapping.dealing) ≡ section_steps x
  unfolding section_steps strided_of
  steps-by w e =
      let p = passed w e in
      ap (λ (v : Strided). steps_report v.count (steps_for v x.mapping.dealing)) p.strided ∙ sym (rw (p.none, steps-for x))

  pub steps-refused : (q : ℕ) → asked_of x ≡ Err q → no_steps q ≡ section_steps x
  unfolding section_steps
  steps-refused q e = let s = stopped q e in grind (arith, common_steps)

  -- ---- first place

  module _ (q : ℤ) where
    -- question 8 decides
    eighth : (w : Strided) → Passed w
        → cond (is_below (pos w.layout.processors) q) 0 8 ≡ first_no (of_section x ++ of_processor x.mapping q)
    unfolding first_no strided_of layout
    eighth w p =
        let m = whole-mapping x.mapping (mapping-yes x p.none) in
        let n : x.mapping.processors ≡ pos w.layout.processors =
        m.processors ∙ ap (λ (v : Strided). pos v.layout.processors) (sym p.strided) in
        sym (asks-on (of_section x) (of_processor x.mapping q) (all_yes (of_section x) refl p.none)
        ∙ ap (λ (z : ℤ). cond (is_below z q) 0 8) n)

    -- the place t, unless question e was answered no
    answer : ℕ → ℕ → PlaceAnswer
    answer e t = cond (eqb e 0) (record { refusal = 0; place = t }) (no_place e)

    decided : (b : Bool) (t : ℕ) → cond b (record { refusal = 0; place = t }) (no_place 8) ≡ answer (cond b 0 8) t
    unfolding answer
    decided true t = refl
    decided false t = refl

    pub place-by : (w : Strided) → asked_of x ≡ Ok w → first_place_in w x.mapping.dealing q ≡ first_place_at x q
    unfolding first_place_in first_place_at answer
    place-by w e =
        let p = passed w e in
        let from : Strided → ℕ = λ v. place_by (share_in v (nat q) (part_in x.mapping.dealing (nat q))) in
        let place : from w ≡ first_place x (nat q) = ap from p.strided ∙ sym (shares.place-by x p.none (nat q)) in
        decided (is_below (pos w.layout.processors) q) (from w) ∙ (λ i. answer (eighth w p i) (place i))

    pub place-refused : (e : ℕ) → asked_of x ≡ Err e → no_place e ≡ first_place_at x q
    unfolding first_place_at
    place-refused e r =
        let s = stopped e r in
        let first : first_no (of_section x ++ of_processor x.mapping q) ≡ e =
        stops (of_section x) (of_processor x.mapping q) (λ z. s.some (sym s.first ∙ z)) ∙ s.first in
        rw (first, ne_eqb e 0 s.some)
