-- The moves that drive the walk of an accepted section: with alignment stride 1, with section stride 1 or -1, with one step,
-- and without a step. Assumes nothing.
use Prim.Native.Nat.{ℕ, ◌+◌, ◌*◌, ◌/◌, ◌%◌, ◌≤◌, ◌<◌}
use mathlib.Core.Path.{◌≡◌, refl, sym, ap, ◌∙◌, subst}
use mathlib.Core.Bool.{Bool, true, false}
use mathlib.Core.Logic.{⊎_elim}
use native.Mathlib.Nat.{mul-lt-mul_of_pos_right, mul-le-mul_right, div-eq_of_eq-mul_left, eq_of_mul-eq-mul_right}
use native.Mathlib.Omega.{arith}
use lib.IntN.{nat_abs}
use Rattle.model.specs.Mappings.{Section}
use Rattle.model.specs.declared.Step.{Step}
use Rattle.model.specs.declared.Steps.{Steps}
use Rattle.model.specs.declared.Steps.TheVariants.{NoStep, OneStep, TwoSteps}
use Rattle.model.specs.Ownership.{held, course_cells, column_of, owner_of}
use Rattle.model.specs.Sections.{layout, count, index, cell}
use Rattle.model.specs.Steps.{go_on, spread, cyclic_steps, upward, cyclic_going}
use Rattle.model.specs.Questions.{first_no, of_section}
use Rattle.model.proofs.AddressLaws.{of_owns, unowned}
use Rattle.model.proofs.AcceptedLaws.{accepted}
use Rattle.model.proofs.SectionLaws.{Moved, spread-pos, cells-moved}
use Rattle.model.proofs.Rests.{le-or-lt}
use Rattle.model.proofs.WalkLaws.{course}
use Rattle.model.proofs.WalkTheorem.{going-nearest}
use Rattle.model.proofs.PeriodLaws.{address-moved}
use Rattle.model.proofs.ByteFillsHold.{rank-low}
use Rattle.walk.specs.Moving.{move_from}
use Rattle.fill.specs.SectionMoves.{cyclic_owns, cyclic_address, block_walk, column_at, onward, moves_of, line_far, line_moves}
use Rattle.fill.specs.Starting.{Driven}
use Rattle.fill.proofs.ShapeLaws.{LawOf, steps-law, Suited}
use Rattle.fill.proofs.PaceLaws.{any-suits, shape_at, none-next, paces, own-paces, stands-in}
use Rattle.fill.proofs.AddressMoves.{line-moves, ones-move}

-- ---- adding modulo 2^32
pub onward-adds : (up : Bool) (d a a' : ℕ) → a < 4294967296 → a' < 4294967296 → Moved up a a' d → a' ≡ (a + onward up d) % 4294967296
onward-adds true d a a' l l' h = omega arith
onward-adds false d a a' l l' h = omega arith

-- the same number is added along each step
same-suits : (b : ℕ) (s : Steps) → Suited (λ a c y₁ y₂. a ≡ b) s b b b
same-suits b NoStep = tt
same-suits b (OneStep a) = refl
same-suits b (TwoSteps r w) = (refl, (refl, refl))

module _ (x : Section) (ok : first_no (of_section x) ≡ 0) (q : ℕ) where
  -- what is added suits the steps, and moves the address along each of them
  module _ (Suits : ℕ → ℕ → ℕ → ℕ → Type 0) (near far both : ℕ) (suited : Suited Suits (cyclic_steps x) near far both)
      (moves : 2 ≤ count x → (t n c y₁ y₂ a : ℕ) → t + n < count x → cyclic_owns x q t ≡ true → cyclic_owns x q (t + n) ≡ true
      → (cyclic_going x t).cells ≡ n * spread x → n * spread x + y₂ ≡ c * course_cells (layout x) + y₁ → column_at x (t + n) + y₂ ≡ column_at x t + y₁
      → Suits a c y₁ y₂ → (d : ℕ) × (a ≡ onward (upward x) d) × Moved (upward x) (cyclic_address x t) (cyclic_address x (t + n)) d) where
    driven : Driven x q (moves_of x near far both)
    unfolding block_walk paces
    driven =
        record { drives = record { paces = paces x ok near far both q; address = λ t h o l. at t h o l }; own = own-paces x ok near far both q; stands = stands-in x ok near far both q }
      where
        at : (t : ℕ) → t < count x → cyclic_owns x q t ≡ true → t + (move_from (moves_of x near far both) (column_at x t)).places < count x
            → cyclic_address x (t + (move_from (moves_of x near far both) (column_at x t)).places)
            ≡ (cyclic_address x t + (move_from (moves_of x near far both) (column_at x t)).add) % 4294967296
        at t h o l =
            ⊎_elim
            (λ two.
            let v = shape_at x ok two Suits near far both suited t in
            let p = paces x ok near far both q in
            let c = p.columns t h o l in
            let m = moves two t _ v.c v.y₁ v.y₂ _ l o (p.same t h o l) v.places v.cells (ap (λ (z : ℕ). z + v.y₂) c ∙ v.columns) v.suits in
            rw m.1
            (onward-adds (upward x) m.0 (cyclic_address x t) _ (omega (arith, rank-low x ok t h (owner_of (layout x)))) (omega (arith, rank-low x ok _ l (owner_of (layout x)))) m.2))
            (λ few. absurd (none-next x ok near far both t h few l))
            (le-or-lt 2 (count x))

  step-laws : LawOf (course_cells (layout x)) (layout x).block (spread x) (cyclic_steps x)
  unfolding cyclic_steps
  step-laws =
      let z = (accepted x ok).sized in
      steps-law (course (layout x) z.processors-pos z.block-pos (spread x) (spread-pos x ok)) (count x)

  -- ---- without a step, whatever is added
  pub drives-none : count x < 2 → (near far both : ℕ) → Driven x q (moves_of x near far both)
  drives-none few near far both =
      driven (λ a c y₁ y₂. Unit {0}) near far both (any-suits (cyclic_steps x) near far both) (λ two t n c y₁ y₂ a l o o' g e f s. absurd (omega arith))

  -- ---- section stride 1 or -1: each step leads to the processor's next position, and goes 1 on
  module _ (two : 2 ≤ count x) (t n : ℕ) (l : t + n < count x) (o : cyclic_owns x q t ≡ true) (g : (cyclic_going x t).cells ≡ n * spread x) where
    goes_on : 0 < n
    goes_on =
        let m = (going-nearest x ok two t).multiple in
        omega (arith, m.some, eq_of_mul-eq-mul_right (spread x) (spread-pos x ok) n m.index (sym g ∙ m.cells))

    between : (j : ℕ) → 0 < j → j < n → cyclic_owns x q (t + j) ≡ false
    unfolding owner_of cell
    between j h k =
        unowned (owner_of (layout x)) q (index x (t + j)) (λ e.
        let u = (going-nearest x ok two t).least j (cell x (t + j)) h (cells-moved x ok t j (omega arith)) (e ∙ sym (of_owns (owner_of (layout x)) q (index x t) o)) in
        omega (arith, g, mul-lt-mul_of_pos_right k (spread-pos x ok)))

  pub drives-ones : nat_abs x.triplet.stride ≡ 1
      → Driven x q (moves_of x (onward (upward x) 1) (onward (upward x) 1) (onward (upward x) 1))
  drives-ones one =
      driven (λ a c y₁ y₂. a ≡ onward (upward x) 1) _ _ _ (same-suits (onward (upward x) 1) (cyclic_steps x))
      (λ two t n c y₁ y₂ a l o o' g e f s. (1, s, ones-move x ok q one t n l o o' (goes_on two t n l o g) (between two t n l o g)))

  -- ---- alignment stride 1, with two steps
  pub drives-line : (layout x).stride ≡ 1 → (r w : Step) → cyclic_steps x ≡ TwoSteps r w
      → Driven x q (line_moves (upward x) (layout x).block (spread x) r w)
  drives-line one r w e =
      let law = (subst (LawOf (course_cells (layout x)) (layout x).block (spread x)) e step-laws).1 in
      let far : line_far (layout x).block w + w.column ≡ w.courses * (layout x).block =
      omega (arith, law.few, mul-le-mul_right (layout x).block law.courses-pos) in
      rw (← e)
      (driven Lines _ _ _
      (rw e ((_, refl, omega arith), ((_, refl, omega arith), (_, refl, omega arith))))
      (λ two t n c y₁ y₂ a l o o' g z f s. (s.0, s.1, line-moves x ok q one t n c y₁ y₂ s.0 l o o' z f s.2)))
    where
      Lines : ℕ → ℕ → ℕ → ℕ → Type 0
      Lines a c y₁ y₂ = (d : ℕ) × (a ≡ onward (upward x) d) × (d + y₂ ≡ c * (layout x).block + y₁)

  -- ---- one step: it goes on by the processor's elements in a period, unless it leads past the section
  pub drives-one : (a : Step) → cyclic_steps x ≡ OneStep a → (near far both : ℕ)
      → (a.cells / spread x < count x
      → near ≡ onward (upward x) (held (owner_of (layout x)) (a.cells / spread x * nat_abs x.triplet.stride) q))
      → Driven x q (moves_of x near far both)
  unfolding cyclic_going
  drives-one a e near far both h =
      driven Periods near far both (rw e (refl, (refl, refl)))
      (λ two t n c y₁ y₂ b l o o' g z f s.
      let cells : a.cells ≡ n * spread x =
      sym (ap (λ (v : Steps). (go_on (upward x) (layout x).block (column_of (layout x) (cell x t)) v).cells) e) ∙ g in
      let m : a.cells / spread x ≡ n = div-eq_of_eq-mul_left (spread-pos x ok) cells in
      let y : near ≡ onward (upward x) (held (owner_of (layout x)) (n * nat_abs x.triplet.stride) q) = rw (← m) (h (omega arith)) in
      (_, s.0 ∙ y, address-moved x ok n c (omega (arith, z, s.1.0, s.1.1)) t l q o))
    where
      Periods : ℕ → ℕ → ℕ → ℕ → Type 0
      Periods b c y₁ y₂ = (b ≡ near) × ((y₁ ≡ 0) × (y₂ ≡ 0))
