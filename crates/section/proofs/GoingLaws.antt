-- Going on from a position of an accepted section in blocks: the numbers fit, and the next place is document 01's.
use Prim.Native.Nat.{ℕ, ◌+◌, ◌*◌, ◌≤◌, ◌<◌}
use mathlib.Core.Path.{◌≡◌, refl, ap, ◌∙◌}
use native.Mathlib.Nat.{mul-pos}
use mathlib.Core.Logic.{◌⊎◌, inl, inr}
use native.Mathlib.Omega.{arith}
use borrow.Author.Tests.{lt-ltb}
use Rattle.numbers.proofs.Division.{product_le}
use Rattle.numbers.proofs.SearchLaws.{head-le}
use Rattle.model.specs.Mappings.{Section}
use Rattle.model.specs.declared.Steps.{Steps}
use Rattle.model.specs.declared.Steps.TheVariants.{NoStep, OneStep, TwoSteps}
use Rattle.model.specs.Ownership.{course_cells, column_of}
use Rattle.model.specs.Sections.{layout, count, cell}
use Rattle.model.specs.Steps.{processor_index, return_index, processor_step, return_step, steps_by, try_both, go_on, spread, upward, cyclic_steps, cyclic_going, cyclic_next}
use Rattle.model.specs.Steps as document
use Rattle.model.specs.Questions.{first_no, of_section}
use Rattle.model.proofs.Rests.{le-or-lt}
use Rattle.model.proofs.StepLaws.{step-cases}
use Rattle.model.proofs.WalkTheorem.{Some, some-steps, next-place-by}
use Rattle.section.specs.declared.questions.Strided.{Strided}
use Rattle.section.specs.Strides.{strided_of, Bounded, steps_in}
use Rattle.section.specs.Going.{on_from, next_by, next_in}
use Rattle.section.proofs.StridedLaws.{course-high}
use Rattle.section.proofs.StridedSections.{cell-at}

-- ---- the numbers fit

pub spread-pos : (w : Strided) → Bounded w → 0 < w.layout.stride * w.stride
spread-pos w b = mul-pos b.sized.stride-pos b.stride-pos

-- both steps can be added
abbrev pub Light : Steps → Type 0
Light NoStep = Unit {0}
Light (OneStep x) = Unit {0}
Light (TwoSteps r b) = r.cells + b.cells < 9223372036854775808

pub light : (w : Strided) → Bounded w → Light (steps_in w)
unfolding processor_step return_step processor_index return_index
light w b = step-cases Light w.count M k S (λ h. tt) (λ h d. both h) (λ h d. tt)
  where
    M : ℕ
    M = course_cells w.layout

    k : ℕ
    k = w.layout.block

    S : ℕ
    S = w.layout.stride * w.stride

    few : 2 ≤ w.count → (i : ℕ) → i ≤ M → i * S ≤ 67108864 * 2147483648
    few h i l = product_le 67108864 2147483648 (omega (arith, course-high w.layout b.sized)) (omega (arith, b.spread-high h))

    both : 2 ≤ w.count → Light (TwoSteps (processor_step M k S) (return_step M k S))
    both h =
        let i : processor_index M k S ≤ M = head-le _ 0 M M 1 (omega arith) (omega arith) in
        let j : return_index M k S ≤ M = head-le _ 0 M M 1 (omega arith) (omega arith) in
        omega (arith, few h (processor_index M k S) i, few h (return_index M k S) j)

-- ---- the next place

module _ (x : Section) (ok : first_no (of_section x) ≡ 0) (t : ℕ) (h : t < count x) where
  by-steps : (s : Steps) → Some s
      → on_from (strided_of x) t (go_on (upward x) (layout x).block (column_of (layout x) (cell x t)) s).cells ≡ next_by (strided_of x) t s
  unfolding strided_of
  by-steps NoStep f = absurd f
  by-steps (OneStep m) f = refl
  by-steps (TwoSteps r b) f =
      ap (λ (c : ℕ). on_from (strided_of x) t (try_both (upward x) (layout x).block (column_of (layout x) c) r b).cells) (cell-at x ok t h)

  pub next-in : cyclic_next x t ≡ next_in (strided_of x) t
  unfolding next_in strided_of cyclic_next cyclic_steps steps_by document.next_by cyclic_going spread
  next-in = go (le-or-lt 2 (count x))
    where
      go : (2 ≤ count x) ⊎ (count x < 2) → cyclic_next x t ≡ next_in (strided_of x) t
      go (inl two) =
          next-place-by x ok t h two
          ∙ by-steps (cyclic_steps x) (some-steps (count x) (course_cells (layout x)) (layout x).block (spread x) two)
      go (inr few) = rw (lt-ltb (count x) 2 few)
