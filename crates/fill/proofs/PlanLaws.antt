-- The plan of an accepted section's fill: its moves are within the limits and go along the section's walk.
use Prim.Native.Nat.{ℕ, ◌+◌, ◌*◌, ◌/◌, ◌^◌, ◌≤◌, ◌<◌}
use mathlib.Core.Path.{◌≡◌, refl, sym, ap, ◌∙◌, subst}
use mathlib.Core.Bool.{Bool, true, false}
use mathlib.Core.Logic.{⊎_elim}
use native.Mathlib.Nat.{mul-pos, le-mul_of_pos_right, mul-le-mul_right}
use native.Mathlib.Omega.{arith}
use lib.Dec.{ltb, lit<}
use borrow.Author.Tests.{ltb-true, ltb-false}
use Rattle.numbers.specs.Gcd.{gcd}
use Rattle.numbers.proofs.Division.{product_le}
use Rattle.model.specs.Mappings.{Section}
use Rattle.model.specs.declared.Step.{Step}
use Rattle.model.specs.declared.Steps.{Steps}
use Rattle.model.specs.declared.Steps.TheVariants.{NoStep, OneStep, TwoSteps}
use Rattle.model.specs.Ownership.{course_cells, owner_of, held}
use Rattle.model.specs.Sections.{layout, count}
use Rattle.model.specs.Steps.{processor_step, return_step, steps_by, spread, cyclic_steps, upward}
use Rattle.model.proofs.Rests.{le-or-lt}
use Rattle.model.proofs.StepLaws.{processor-law, return-law, determinant}
use Rattle.model.proofs.WalkLaws.{course}
use Rattle.model.proofs.WalkTheorem.{Some, some-steps}
use Rattle.section.specs.declared.questions.Strided.{Strided}
use Rattle.section.specs.Strides.{Bounded, strided_of, steps_in}
use Rattle.section.proofs.StridedSections.{bounded}
use Rattle.walk.specs.declared.moves.Moves.{Moves}
use Rattle.fill.specs.declared.plan.Plan.{Plan}
use Rattle.fill.specs.declared.plan.Plan.TheVariants.{Constant, Learnt}
use Rattle.walk.specs.Moving.{Small, Still}
use Rattle.fill.specs.SectionMoves.{onward, moves_by, moves_of, line_near, line_far, line_moves}
use Rattle.fill.specs.Starting.{Taken, PlannedFor, Planned}
use Rattle.fill.proofs.DriveLaws.{drives-none, drives-ones, drives-line, drives-one}
use Rattle.fill.proofs.EvenLaws.{even}
use Rattle.fill.proofs.SmallMoves.{onward-low, moves-small}

-- ---- the steps of so many elements

-- two steps are the processor step and the return step, of two elements or more
record Two (n M k S : ℕ) (r b : Step) : Type 0 where
  several : 2 ≤ n
  divisor : gcd S M < k
  processor : r ≡ processor_step M k S
  back : b ≡ return_step M k S

two-of : (n M k S : ℕ) (r b : Step) → steps_by n M k S ≡ TwoSteps r b → Two n M k S r b
unfolding steps_by
two-of n M k S r b e = go (ltb n 2) refl (ltb (gcd S M) k) refl
  where
    go : (p : Bool) → ltb n 2 ≡ p → (d : Bool) → ltb (gcd S M) k ≡ d → Two n M k S r b
    go true p d q = absurd (let f = rw p at e in let z : ◌≡◌ {A = ℕ} 0 1 = cc in omega arith)
    go false p true q =
        let f = rw (p, q) at e in
        record { several = ltb-false n 2 p; divisor = ltb-true (gcd S M) k q; processor = cc; back = cc }
    go false p false q = absurd (let f = rw (p, q) at e in let z : ◌≡◌ {A = ℕ} 0 1 = cc in omega arith)

few-of : (n M k S : ℕ) → steps_by n M k S ≡ NoStep → n < 2
few-of n M k S e = ⊎_elim (λ l. absurd (subst Some e (some-steps n M k S l))) (λ l. l) (le-or-lt 2 n)

-- ---- an accepted section on natural numbers

module _ (w : Strided) (t : Taken w) where
  pub taken-bounded : Bounded w
  taken-bounded = subst Bounded (sym t.same) (bounded t.source t.accepted)

  pub taken-spread : 0 < w.layout.stride * w.stride
  taken-spread = mul-pos taken-bounded.sized.stride-pos taken-bounded.stride-pos

  -- the address moves of an array with stride 1, along two steps
  module _ (r b : Step) (e : steps_in w ≡ TwoSteps r b) where
    pub record Lines : Type 0 where
      pub near : r.courses * w.layout.block + r.column < 2 ^ 62
      pub far : b.courses * w.layout.block < 2 ^ 62
      pub back : b.column ≤ b.courses * w.layout.block

    pub lines : Lines
    lines =
        let z = taken-bounded.sized in
        let S = w.layout.stride * w.stride in
        let two = two-of w.count (course_cells w.layout) w.layout.block S r b e in
        let h = course w.layout z.processors-pos z.block-pos S taken-spread in
        let P = processor-law h two.divisor in
        let R = return-law h two.divisor in
        let det : b.courses * r.column + r.courses * b.column ≡ S = rw (two.processor, two.back) (determinant h two.divisor) in
        let high : S ≤ 2147483647 = omega (arith, taken-bounded.spread-high two.several) in
        let p : 0 < r.column = rw two.processor P.some in
        let f : r.column < w.layout.block = rw two.processor P.few in
        let p' : 0 < b.column = rw two.back R.some in
        let f' : b.column < w.layout.block = rw two.back R.few in
        let c' : 0 < b.courses = rw two.back R.courses-pos in
        let one : r.courses ≤ 2147483647 = omega (arith, le-mul_of_pos_right r.courses p') in
        let two' : b.courses ≤ 2147483647 = omega (arith, le-mul_of_pos_right b.courses p) in
        record {
          near = omega (arith, product_le 2147483647 65536 one z.block-high, z.block-high);
          far = omega (arith, product_le 2147483647 65536 two' z.block-high);
          back = omega (arith, mul-le-mul_right w.layout.block c');
        }

-- ---- plans

block-is : (k S : ℕ) (s : Steps) (near far both : ℕ) → (moves_by k S s near far both).block ≡ k
unfolding moves_by
block-is k S NoStep near far both = refl
block-is k S (OneStep a) near far both = refl
block-is k S (TwoSteps r b) near far both = refl

-- moves to which nothing is added leave the address as it is
still-is : (k S : ℕ) (s : Steps) → Still (moves_by k S s 0 0 0)
unfolding moves_by
still-is k S NoStep = record { near = refl; far = refl; both = refl }
still-is k S (OneStep a) = record { near = refl; far = refl; both = refl }
still-is k S (TwoSteps r b) = record { near = refl; far = refl; both = refl }

-- the section's moves have its blocks
block_of : (x : Section) (near far both : ℕ) → (moves_of x near far both).block ≡ (layout x).block
block_of x near far both = block-is (layout x).block (spread x) (cyclic_steps x) near far both

-- the moves by its numbers are the section's
moves-are : (w : Strided) (x : Section) → w ≡ strided_of x → (s : Steps) → steps_in w ≡ s → (near far both : ℕ)
    → moves_by w.layout.block (w.layout.stride * w.stride) s near far both ≡ moves_of x near far both
unfolding strided_of spread cyclic_steps
moves-are w x same s e near far both = rw (← e, same)

module _ (w : Strided) (q : ℕ) where
  -- with section stride 1
  pub ones-planned : w.stride ≡ 1 → (s : Steps) → steps_in w ≡ s → (add : ℕ) → add ≡ onward w.upward 1 → (p : Plan)
      → p ≡ Constant (moves_by w.layout.block (w.layout.stride * w.stride) s add add add) → Planned w q p
  unfolding strided_of
  ones-planned one s e add is p f x ok same =
      let d = onward (upward x) 1 in
      let m : add ≡ d = is ∙ ap (λ (v : Strided). onward v.upward 1) same in
      let l = onward-low (upward x) 1 in
      subst (PlannedFor x q) (sym (f ∙ ap Constant (moves-are w x same s e add add add ∙ ap (λ (z : ℕ). moves_of x z z z) m)))
      (moves-small x ok d d d l l l, block_of x d d d, drives-ones x ok q (sym (ap (λ (v : Strided). v.stride) same) ∙ one))

  -- without a step
  pub none-planned : steps_in w ≡ NoStep → (p : Plan)
      → p ≡ Constant (moves_by w.layout.block (w.layout.stride * w.stride) NoStep 0 0 0) → Planned w q p
  unfolding strided_of
  none-planned e p f x ok same =
      let few : count x < 2 =
      subst (λ (v : Strided). v.count < 2) same (few-of w.count (course_cells w.layout) w.layout.block (w.layout.stride * w.stride) e) in
      let l : 0 < 4294967296 = lit< tt in
      subst (PlannedFor x q) (sym (f ∙ ap Constant (moves-are w x same NoStep e 0 0 0)))
      (moves-small x ok 0 0 0 l l l, block_of x 0 0 0, drives-none x ok q few 0 0 0)

  -- with one step
  pub one-planned : (a : Step) → steps_in w ≡ OneStep a → (n r add : ℕ) → n ≡ a.cells / (w.layout.stride * w.stride)
      → (n < w.count → r ≡ held (owner_of w.layout) (n * w.stride) q) → add ≡ onward w.upward r → (p : Plan)
      → p ≡ Constant (moves_by w.layout.block (w.layout.stride * w.stride) (OneStep a) add add add) → Planned w q p
  unfolding strided_of spread cyclic_steps
  one-planned a e n r add places held_by_lem is p f x ok same =
      let u : add ≡ onward (upward x) r = is ∙ ap (λ (v : Strided). onward v.upward r) same in
      let l : add < 4294967296 = rw u (onward-low (upward x) r) in
      let g : cyclic_steps x ≡ OneStep a = sym (ap steps_in same) ∙ e in
      let m : n ≡ a.cells / spread x = places ∙ ap (λ (v : Strided). a.cells / (v.layout.stride * v.stride)) same in
      subst (PlannedFor x q) (sym (f ∙ ap Constant (moves-are w x same (OneStep a) e add add add))) (
        moves-small x ok add add add l l l,
        block_of x add add add,
        drives-one x ok q a g add add add
            (λ h. u ∙ ap (onward (upward x)) (held_by_lem (rw (m, same) h) ∙ ap (λ (v : Strided). held (owner_of v.layout) (n * v.stride) q) same ∙ rw m)),
      )

  -- with two steps
  module _ (r b : Step) (e : steps_in w ≡ TwoSteps r b) where
    pub line-planned : w.layout.stride ≡ 1 → (m : Moves)
        → m ≡ line_moves w.upward w.layout.block (w.layout.stride * w.stride) r b → Planned w q (Constant m)
    unfolding strided_of spread cyclic_steps
    line-planned one m f x ok same =
        let k = (layout x).block in
        let g : cyclic_steps x ≡ TwoSteps r b = sym (ap steps_in same) ∙ e in
        let u : m ≡ line_moves (upward x) k (spread x) r b =
        f ∙ ap (λ (v : Strided). line_moves v.upward v.layout.block (v.layout.stride * v.stride) r b) same in
        let near : ℕ = onward (upward x) (line_near k r) in
        let far : ℕ = onward (upward x) (line_far k b) in
        let both : ℕ = onward (upward x) (line_near k r + line_far k b) in
        let small : Small (moves_of x near far both) =
        moves-small x ok near far both (onward-low (upward x) _) (onward-low (upward x) _) (onward-low (upward x) _) in
        subst (λ (z : Moves). PlannedFor x q (Constant z)) (sym u) (
          subst (λ (s : Steps). Small (moves_by k (spread x) s near far both)) g small,
          block-is k (spread x) (TwoSteps r b) near far both,
          drives-line x ok q (sym (ap (λ (v : Strided). v.layout.stride) same) ∙ one) r b g,
        )

    pub learnt-planned : (m : Moves) → m ≡ moves_by w.layout.block (w.layout.stride * w.stride) (TwoSteps r b) 0 0 0 → Planned w q (Learnt m)
    learnt-planned m f x ok same =
        let l : 0 < 4294967296 = lit< tt in
        subst (λ (z : Moves). PlannedFor x q (Learnt z)) (sym (f ∙ moves-are w x same (TwoSteps r b) e 0 0 0))
        (moves-small x ok 0 0 0 l l l, block_of x 0 0 0, even x ok 0 0 0 q (moves-small x ok 0 0 0 l l l), still-is (layout x).block (spread x) (cyclic_steps x))
