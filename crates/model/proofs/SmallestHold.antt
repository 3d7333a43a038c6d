-- The steps of an accepted section of a cyclic template are the smallest of their forms among all multiples of S. Assumes nothing.
use Prim.Native.Nat.{ℕ, ◌*◌, ◌%◌, ◌≤◌, ◌<◌}
use mathlib.Core.Path.{◌≡◌, refl, sym, ap, ◌∙◌, subst}
use mathlib.Core.Logic.{inl}
use native.Mathlib.Nat.{mul-mod_left}
use native.Mathlib.Omega.{arith}
use lib.IntN.{ℤ}
use Rattle.numbers.specs.Gcd.{gcd}
use Rattle.model.specs.declared.Steps.TheVariants.{NoStep, OneStep, TwoSteps}
use Rattle.model.specs.Mappings.{Dealing, cyclic, Section}
use Rattle.model.specs.Ownership.{course_cells}
use Rattle.model.specs.Sections.{layout, count}
use Rattle.model.specs.Steps.{processor_step, return_step, one_step, spread, cyclic_steps, steps_dealt, steps_of}
use Rattle.model.specs.Questions.{first_no, of_section}
use Rattle.model.specs.Smallest.{Above, Below, Whole, Smallest, TwoSmallest, OneSmallest, SmallestSteps}
use Rattle.model.proofs.AcceptedLaws.{accepted}
use Rattle.model.proofs.SectionLaws.{spread-pos}
use Rattle.model.proofs.Rests.{Course}
use Rattle.model.proofs.StepLaws.{step-cases, processor-law, return-law, one-law}
use Rattle.model.proofs.WalkLaws.{course}

module _ {M k S : ℕ} (h : Course M k S) where
  smallest-processor : gcd S M < k → Smallest S (Above M k) (processor_step M k S)
  smallest-processor d =
      let l = processor-law h d in
      record {
        multiple = l.multiple;
        form = (l.form, l.some, omega (arith, l.few));
        least = λ n c y m f. omega (arith, m.cells, l.least m.index c y (sym m.cells ∙ f.0) f.1 (omega (arith, f.2)));
      }

  smallest-return : gcd S M < k → Smallest S (Below M k) (return_step M k S)
  smallest-return d =
      let l = return-law h d in
      record {
        multiple = l.multiple;
        form = (l.form, l.courses-pos, l.some, omega (arith, l.few));
        least = λ n c y m f. omega (arith, m.cells, l.least m.index c y (omega (arith, m.cells, f.0)) f.2 (omega (arith, f.3)));
      }

  smallest-one : k ≤ gcd S M → Smallest S (Whole M) (one_step M S)
  unfolding one_step
  smallest-one d =
      let l = one-law h d in
      record {
        multiple = l.multiple;
        form = (l.form, refl);
        least = λ n c y m f.
            let z : m.index * S % M ≡ 0 = ap (λ (x : ℕ). x % M) (sym m.cells ∙ f.0) ∙ mul-mod_left c M in
            omega (arith, m.cells, l.least 0 m.index h.block-pos m.some (inl (omega (arith, h.block-pos))));
      }

  two-smallest : gcd S M < k → TwoSmallest M k S (processor_step M k S) (return_step M k S)
  two-smallest d = record {
    divisor = d;
    processor = smallest-processor d;
    back = smallest-return d;
  }

  one-smallest : k ≤ gcd S M → OneSmallest M k S (one_step M S)
  one-smallest d = record {
    divisor = d;
    whole = smallest-one d;
  }

  -- ---- of so many elements
  module _ (n : ℕ) where
    with_none : n < 2 → SmallestSteps n M k S NoStep
    with_none few = few

    with_two : 2 ≤ n → gcd S M < k → SmallestSteps n M k S (TwoSteps (processor_step M k S) (return_step M k S))
    with_two several d = (several, two-smallest d)

    with-one : 2 ≤ n → k ≤ gcd S M → SmallestSteps n M k S (OneStep (one_step M S))
    with-one several d = (several, one-smallest d)

-- ---- of a section

module _ (x : Section) (ok : first_no (of_section x) ≡ 0) where
  abbrev M : ℕ
  M = course_cells (layout x)

  abbrev k : ℕ
  k = (layout x).block

  in-course : Course M k (spread x)
  in-course =
      let z = (accepted x ok).sized in course (layout x) z.processors-pos z.block-pos (spread x) (spread-pos x ok)

  cyclic-smallest : SmallestSteps (count x) M k (spread x) (cyclic_steps x)
  unfolding cyclic_steps
  cyclic-smallest =
      step-cases (SmallestSteps (count x) M k (spread x)) (count x) M k (spread x) (with_none in-course (count x))
      (with_two in-course (count x)) (with-one in-course (count x))

  pub smallest-steps : {b : ℤ} → x.mapping.dealing ≡ cyclic b → SmallestSteps (count x) M k (spread x) (steps_of x)
  unfolding steps_of
  smallest-steps d = subst (λ (z : Dealing). SmallestSteps (count x) M k (spread x) (steps_dealt z x)) (sym d) cyclic-smallest
