-- The moves of an accepted section are within the limits that a fill asks. Assumes nothing.
use Prim.Native.Nat.{ℕ, ◌*◌, ◌/◌, ◌%◌, ◌≤◌, ◌<◌, zero-le}
use mathlib.Core.Path.{◌≡◌}
use mathlib.Core.Bool.{Bool, true, false}
use mathlib.Core.Logic.{inl}
use native.Mathlib.Nat.{mod-lt, mul-div_cancel, mul-mod_right, div-eq_of_eq-mul_left, le_of_mul-le-mul_right}
use native.Mathlib.Omega.{arith}
use Rattle.numbers.specs.Gcd.{gcd}
use Rattle.numbers.proofs.SearchLaws.{head-le}
use Rattle.model.specs.Mappings.{Section}
use Rattle.model.specs.declared.Steps.{Steps}
use Rattle.model.specs.declared.Steps.TheVariants.{NoStep, OneStep, TwoSteps}
use Rattle.model.specs.Ownership.{course_cells}
use Rattle.model.specs.Sections.{layout, count}
use Rattle.model.specs.Steps.{processor_index, return_index, processor_step, return_step, one_step, steps_by, spread, cyclic_steps}
use Rattle.model.specs.Questions.{first_no, of_section}
use Rattle.model.proofs.AcceptedLaws.{accepted}
use Rattle.model.proofs.SizedLaws.{course-high}
use Rattle.model.proofs.SectionLaws.{spread-pos}
use Rattle.model.proofs.Rests.{Course}
use Rattle.model.proofs.StepLaws.{step-cases, one-law}
use Rattle.model.proofs.WalkLaws.{course}
use Rattle.walk.specs.Moving.{Small}
use Rattle.fill.specs.SectionMoves.{onward, moves_by, moves_of}
use Rattle.fill.proofs.ShapeLaws.{LawOf, steps-law}

pub onward-low : (up : Bool) (d : ℕ) → onward up d < 4294967296
onward-low true d = mod-lt d (omega arith)
onward-low false d = mod-lt _ (omega arith)

-- a step goes on no more positions than a course has cells
abbrev Few : ℕ → ℕ → Steps → Type 0
Few M S NoStep = Unit {0}
Few M S (OneStep a) = a.cells / S ≤ M
Few M S (TwoSteps r w) = (r.cells / S ≤ M) × (w.cells / S ≤ M)

module _ {M k S : ℕ} (h : Course M k S) where
  M-pos : 0 < M
  M-pos = omega (arith, h.block-pos, h.block-le)

  processor-few : (processor_step M k S).cells / S ≤ M
  unfolding processor_step processor_index
  processor-few = rw (mul-div_cancel (processor_index M k S) h.spread-pos) (head-le _ 0 M M 1 (omega arith) (omega arith))

  return-few : (return_step M k S).cells / S ≤ M
  unfolding return_step return_index
  return-few = rw (mul-div_cancel (return_index M k S) h.spread-pos) (head-le _ 0 M M 1 (omega arith) (omega arith))

  -- M times S cells are whole courses too, and no fewer than the one step
  one-few : k ≤ gcd S M → (one_step M S).cells / S ≤ M
  one-few d =
      let l = one-law h d in
      let z : M * S % M ≡ 0 = mul-mod_right M S in
      let le = l.least 0 M h.block-pos M-pos (inl (omega (arith, h.block-pos))) in
      rw (div-eq_of_eq-mul_left h.spread-pos l.multiple.cells)
      (le_of_mul-le-mul_right {m = l.multiple.index} {n = M} {k = S} (omega (arith, l.multiple.cells)) h.spread-pos)

  few : (n : ℕ) → Few M S (steps_by n M k S)
  few n = step-cases (Few M S) n M k S (λ l. tt) (λ l d. (processor-few, return-few)) (λ l d. one-few d)

-- ---- an accepted section
module _ (x : Section) (ok : first_no (of_section x) ≡ 0) where
  at-course : Course (course_cells (layout x)) (layout x).block (spread x)
  at-course =
      let z = (accepted x ok).sized in
      course (layout x) z.processors-pos z.block-pos (spread x) (spread-pos x ok)

  course-low : course_cells (layout x) ≤ 67108864
  unfolding course_cells
  course-low = course-high (layout x) (accepted x ok).sized

  some : (n i : ℕ) → n ≡ i * spread x → 0 < i → 0 < n / spread x
  some n i e p = rw (div-eq_of_eq-mul_left (spread-pos x ok) e) p

  -- the moves are within the limits, if what is added is
  module _ (near far both : ℕ) (a : near < 4294967296) (b : far < 4294967296) (c : both < 4294967296) where
    small_by : (s : Steps) → LawOf (course_cells (layout x)) (layout x).block (spread x) s → Few (course_cells (layout x)) (spread x) s
        → Small (moves_by (layout x).block (spread x) s near far both)
    unfolding moves_by
    small_by NoStep l f =
        let z = (accepted x ok).sized in
        record {
          block = z.block-high;
          up = z.block-pos;
          down = zero-le;
          some = omega arith;
          first = omega arith;
          second = omega arith;
          near = a;
          far = b;
          both = c;
        }
    small_by (OneStep s) l f =
        let z = (accepted x ok).sized in
        record {
          block = z.block-high;
          up = z.block-pos;
          down = zero-le;
          some = some s.cells l.multiple.index l.multiple.cells l.multiple.some;
          first = omega (arith, course-low);
          second = omega arith;
          near = a;
          far = b;
          both = c;
        }
    small_by (TwoSteps r w) l f =
        let z = (accepted x ok).sized in
        record {
          block = z.block-high;
          up = l.0.few;
          down = omega (arith, l.1.few);
          some = some r.cells l.0.multiple.index l.0.multiple.cells l.0.multiple.some;
          first = omega (arith, f.0, course-low);
          second = omega (arith, f.1, course-low);
          near = a;
          far = b;
          both = c;
        }

    pub moves-small : Small (moves_of x near far both)
    unfolding cyclic_steps
    moves-small = small_by (cyclic_steps x) (steps-law at-course (count x)) (few at-course (count x))
