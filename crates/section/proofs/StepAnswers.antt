-- The steps of an accepted section, by cases.
use Prim.Native.Nat.{ℕ, ◌*◌, ◌≤◌, ◌<◌}
use mathlib.Core.Path.{◌≡◌, refl}
use mathlib.Core.Bool.{Bool, true, false}
use native.Mathlib.Nat.{mul-pos}
use native.Mathlib.Omega.{arith}
use lib.Dec.{ltb}
use borrow.Author.Tests.{lt-ltb, le-ltb, ltb-false}
use Rattle.numbers.specs.Gcd.{gcd}
use Rattle.numbers.proofs.GcdLaws.{gcd-pos-left}
use Rattle.model.specs.declared.Steps.{Steps}
use Rattle.model.specs.declared.Steps.TheVariants.{NoStep, OneStep, TwoSteps}
use Rattle.model.specs.Mappings.{Dealing, cyclic, gen_block}
use Rattle.model.specs.Ownership.{course_cells}
use Rattle.model.specs.Steps.{processor_step, return_step, one_step, steps_by, run_steps}
use Rattle.model.proofs.Rests.{Course}
use Rattle.model.proofs.CellOwners.{block-le}
use Rattle.model.proofs.StepLaws.{step-cases, processor-law, return-law}
use Rattle.section.specs.declared.questions.Strided.{Strided}
use Rattle.section.specs.Strides.{Bounded, steps_in}
use Rattle.section.specs.Shares.{steps_for}
use Rattle.section.specs.Falls.{Searched}
use Rattle.section.specs.Answers.{Short}
use Rattle.section.proofs.StridedLaws.{course-high}

-- from the course m and the spread s of a section
module _ (w : Strided) {m s : ℕ} (em : m ≡ course_cells w.layout) (es : s ≡ w.layout.stride * w.stride) where
  pub no_step : w.count < 2 → NoStep ≡ steps_in w
  unfolding steps_by
  no_step h = rw (lt-ltb w.count 2 h)

  pub one-step : 2 ≤ w.count → w.layout.block ≤ gcd s m → OneStep (one_step m s) ≡ steps_in w
  unfolding steps_by
  one-step h l = rw (← em, ← es, le-ltb w.count 2 h, le-ltb (gcd s m) w.layout.block l)

  pub two_steps : 2 ≤ w.count → gcd s m < w.layout.block
      → TwoSteps (processor_step m w.layout.block s) (return_step m w.layout.block s) ≡ steps_in w
  unfolding steps_by
  two_steps h l = rw (← em, ← es, le-ltb w.count 2 h, lt-ltb (gcd s m) w.layout.block l)

  module _ (b : Bounded w) (h : 2 ≤ w.count) where
    spread-pos : 0 < s
    spread-pos = rw es (mul-pos b.sized.stride-pos b.stride-pos)

    pub divisor-pos : 0 < gcd s m
    divisor-pos = gcd-pos-left s m spread-pos

    pub spread-high : s < 2147483648
    spread-high = rw es (b.spread-high h)

    pub cells-high : m ≤ 67108864
    cells-high = rw em (course-high w.layout b.sized)

    pub searched : gcd s m < w.layout.block → Searched s m w.layout.block
    searched l =
        record {
          spread-pos = spread-pos;
          spread-high = spread-high;
          block-pos = b.sized.block-pos;
          block-le = rw em (block-le w.layout b.sized.processors-pos b.sized.block-pos);
          course-high = cells-high;
          divisor = l;
        }

-- the column moves are shorter than a block
pub cyclic-short : (w : Strided) → Bounded w → Short 65536 (steps_in w)
unfolding one_step
cyclic-short w b =
    step-cases (Short 65536) w.count (course_cells w.layout) w.layout.block (w.layout.stride * w.stride)
    (λ l. tt)
    (λ l d. (omega (arith, (processor-law h d).few, b.sized.block-high), omega (arith, (return-law h d).few, b.sized.block-high)))
    (λ l d. omega arith)
  where
    h : Course (course_cells w.layout) w.layout.block (w.layout.stride * w.stride)
    h =
        record {
          block-pos = b.sized.block-pos;
          block-le = block-le w.layout b.sized.processors-pos b.sized.block-pos;
          spread-pos = mul-pos b.sized.stride-pos b.stride-pos;
        }

-- and that of a run is no longer than the template
run_short : (w : Strided) → Bounded w → Short 2147483647 (run_steps w.count (w.layout.stride * w.stride))
unfolding run_steps
run_short w b = go (ltb w.count 2) refl
  where
    go : (few : Bool) → ltb w.count 2 ≡ few → Short 2147483647 (run_steps w.count (w.layout.stride * w.stride))
    go true e = rw e tt
    go false e = rw e (omega (arith, b.spread-high (ltb-false w.count 2 e)))

pub short : (w : Strided) → Bounded w → (d : Dealing) → Short 2147483647 (steps_for w d)
short w b (cyclic k) = go (steps_in w) (cyclic-short w b)
  where
    go : (s : Steps) → Short 65536 s → Short 2147483647 s
    go NoStep h = tt
    go (OneStep r) h = omega arith
    go (TwoSteps r u) h = (omega (arith, h.0), omega (arith, h.1))
short w b (gen_block sizes left) = run_short w b
