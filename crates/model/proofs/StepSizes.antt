-- How large the numbers of a section's steps are.
use Prim.Native.Nat.{ℕ, ◌+◌, ◌*◌, ◌^◌, ◌≤◌, ◌<◌, zero-le}
use mathlib.Core.Path.{◌≡◌, refl}
use mathlib.Core.Bool.{Bool, true, false}
use native.Mathlib.Nat.{div-le_self, mul-le-mul_right}
use native.Mathlib.Omega.{arith}
use lib.Dec.{ltb}
use borrow.Author.Tests.{ltb-false}
use Rattle.numbers.specs.Search.{passing, head_or}
use Rattle.numbers.specs.Gcd.{gcd}
use Rattle.numbers.proofs.Division.{lt_of_mul, product_le}
use Rattle.numbers.proofs.SearchLaws.{head-le}
use Rattle.model.specs.Mappings.{Dealing, cyclic, gen_block, Section}
use Rattle.model.specs.declared.Step.{Step}
use Rattle.model.specs.declared.Steps.{Steps}
use Rattle.model.specs.declared.Steps.TheVariants.{NoStep, OneStep, TwoSteps}
use Rattle.model.specs.Ownership.{course_cells}
use Rattle.model.specs.Sections.{layout, count}
use Rattle.model.specs.Steps.{processor_index, return_index, processor_step, return_step, one_step, spread, cyclic_steps, run_steps, steps_dealt, steps_of}
use Rattle.model.specs.Questions.{first_no, of_section}
use Rattle.model.proofs.AcceptedLaws.{Accepted, accepted}
use Rattle.model.proofs.SizedLaws.{course-high}
use Rattle.model.proofs.SectionLaws.{spread-pos, spread-high}
use Rattle.model.proofs.Rests.{Course}
use Rattle.model.proofs.StepLaws.{step-cases, processor-law, return-law}
use Rattle.model.proofs.WalkLaws.{course}

-- ---- by course, block and spread

-- no more cells than M times S, and a column move shorter than a block
record Limited (M k S : ℕ) (r : Step) : Type 0 where
  cells : r.cells ≤ M * S
  courses : r.courses ≤ S
  column : r.column < k

module _ {M k S : ℕ} (h : Course M k S) where
  -- a step to within a block of whole courses
  limited : (r : Step) → r.cells ≤ M * S → r.courses * M ≤ r.cells + r.column → r.column < k → Limited M k S r
  limited r few near short =
      record { cells = few; courses = omega (arith, lt_of_mul r.courses (S + 1) M (omega (arith, h.block-le))); column = short }

  -- steps are sought among M multiples
  sought : (f : ℕ → Bool) → head_or 0 (passing f 1 M) * S ≤ M * S
  sought f = mul-le-mul_right S (head-le f 0 M M 1 zero-le (omega arith))

  processor-limited : gcd S M < k → Limited M k S (processor_step M k S)
  unfolding processor_step processor_index
  processor-limited d =
      let l = processor-law h d in
      limited (processor_step M k S) (sought _) (omega (arith, l.form)) l.few

  return-limited : gcd S M < k → Limited M k S (return_step M k S)
  unfolding return_step return_index
  return-limited d =
      let l = return-law h d in
      limited (return_step M k S) (sought _) (omega (arith, l.form)) l.few

  one-limited : Limited M k S (one_step M S)
  unfolding one_step
  one-limited = record { cells = div-le_self (M * S) (gcd S M); courses = div-le_self S (gcd S M); column = h.block-pos }

-- ---- of an accepted section

pub record Low (r : Step) : Type 0 where
  pub cells : r.cells < 2 ^ 57
  pub courses : r.courses < 2 ^ 31
  pub column : r.column < 2 ^ 31

abbrev pub AllLow : Steps → Type 0
AllLow NoStep = Unit {0}
AllLow (OneStep r) = Low r
AllLow (TwoSteps r w) = Low r × Low w

pub cyclic-low : (x : Section) → first_no (of_section x) ≡ 0 → AllLow (cyclic_steps x)
unfolding cyclic_steps course_cells
cyclic-low x ok =
    step-cases AllLow (count x) M k S
    (λ l. tt)
    (λ l d. (low l _ (processor-limited h d), low l _ (return-limited h d)))
    (λ l d. low l _ (one-limited h))
  where
    a : Accepted x
    a = accepted x ok

    M : ℕ
    M = course_cells (layout x)

    k : ℕ
    k = (layout x).block

    S : ℕ
    S = spread x

    h : Course M k S
    h = course (layout x) a.sized.processors-pos a.sized.block-pos (spread x) (spread-pos x ok)

    -- with two elements S lies in the template
    low : 2 ≤ count x → (r : Step) → Limited M k S r → Low r
    low l r b =
        let s : S ≤ 2147483647 = omega (arith, spread-high x ok l) in
        record {
          cells = omega (arith, b.cells, product_le 67108864 2147483647 (course-high (layout x) a.sized) s);
          courses = omega (arith, b.courses);
          column = omega (arith, b.column, a.sized.block-high);
        }

run-low : (x : Section) → first_no (of_section x) ≡ 0 → AllLow (run_steps (count x) (spread x))
unfolding run_steps
run-low x ok = go (ltb (count x) 2) refl
  where
    go : (b : Bool) → ltb (count x) 2 ≡ b → AllLow (run_steps (count x) (spread x))
    go true e = rw e tt
    go false e =
        let s = spread-high x ok (ltb-false (count x) 2 e) in
        rw e (record { cells = omega arith; courses = omega arith; column = omega arith })

pub steps_low : (x : Section) → first_no (of_section x) ≡ 0 → AllLow (steps_of x)
unfolding steps_of
steps_low x ok = go x.mapping.dealing
  where
    go : (z : Dealing) → AllLow (steps_dealt z x)
    go (cyclic k) = cyclic-low x ok
    go (gen_block sizes left) = run-low x ok
