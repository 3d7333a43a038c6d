-- The answer to questions 1 to 7, from that about the mapping and that about the triplet.
use Prim.Native.Nat.{ℕ}
use mathlib.Core.Path.{◌≡◌, refl, sym, ◌∙◌}
use mathlib.Core.Bool.{Bool, true, false}
use native.Mathlib.Omega.{arith}
use borrow.Author.Tests.{eqb-true, eqb-false, ne_eqb}
use lib.Dec.{eqb}
use Rattle.model.specs.Mappings.{Section}
use Rattle.model.specs.Sections.{layout}
use Rattle.model.specs.Questions.{first_no, of_mapping, of_triplet, of_section}
use Rattle.model.proofs.QuestionLaws.{stops}
use Rattle.mapping.specs.Answers.{mapped_of}
use Rattle.mapping.specs.declared.questions.Mapped.{Mapped}
use Rattle.mapping.proofs.CallLaws.{passed, stopped}
use Rattle.std.specs.Prelude.{Ok, Err}
use Rattle.section.specs.Answers.{asked_by, asked_in, asked_of, Sound}
use Rattle.section.proofs.StridedSections.{bounded}
use Rattle.section.proofs.TripletAnswers.{go_on}

-- the answer has every bound of its case
pub sound : (x : Section) → Sound (asked_of x)
unfolding asked_of
sound x = go (eqb (first_no (of_section x)) 0) refl
  where
    go : (b : Bool) → eqb (first_no (of_section x)) 0 ≡ b → Sound (asked_by x (first_no (of_section x)))
    go true e = rw e (bounded x (eqb-true (first_no (of_section x)) 0 e))
    go false e = rw e (omega (arith, eqb-false (first_no (of_section x)) 0 e))

module _ (x : Section) where
  -- questions 1 to 5 passed: 6 and 7 decide
  pub mapping-accepted : (a : Mapped) → mapped_of x.mapping ≡ Ok a
      → asked_in a.layout a.lower x.triplet ≡ asked_of x
  unfolding layout
  mapping-accepted a e =
      let p = passed x.mapping a e in
      (λ i. asked_in (p.layout i) (p.lower i) x.triplet) ∙ go_on x p.none

  -- one of them did not
  pub mapping-refused : (q : ℕ) → mapped_of x.mapping ≡ Err q → Err q ≡ asked_of x
  unfolding asked_of
  mapping-refused q e =
      let s = stopped x.mapping q e in
      let first : first_no (of_section x) ≡ q =
      stops (of_mapping x.mapping) (of_triplet x) (λ z. s.some (sym s.first ∙ z)) ∙ s.first in
      rw (first, ne_eqb q 0 s.some)
