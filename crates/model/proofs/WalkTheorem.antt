-- The walk theorem of the cyclic dealing: in an accepted section, the next place after a position is the next position that the
-- same processor owns, or the count.
use Prim.Native.Nat.{ℕ, suc, ◌+◌, ◌-◌, ◌*◌, ◌/◌, ◌≤◌, ◌<◌}
use mathlib.Core.Path.{◌≡◌, sym, ap, ◌∙◌, subst}
use mathlib.Core.Bool.{Bool, true, false, cond}
use mathlib.Core.Logic.{◌⊎◌, inl, inr}
use native.Mathlib.Nat.{mul-lt-mul_of_pos_right, div-eq_of_eq-mul_left}
use native.Mathlib.Omega.{arith}
use lib.Dec.{ltb}
use borrow.Author.Tests.{lt-ltb, le-ltb}
use Rattle.numbers.specs.Search.{passing, head_or}
use Rattle.numbers.proofs.Division.{lt_of_mul}
use Rattle.numbers.proofs.SearchLaws.{passing-none, head-skip}
use Rattle.model.specs.Mappings.{Section}
use Rattle.model.specs.declared.Steps.{Steps}
use Rattle.model.specs.declared.Steps.TheVariants.{NoStep, OneStep, TwoSteps}
use Rattle.model.specs.Ownership.{course_cells, owner_of, owns}
use Rattle.model.specs.Sections.{layout, count, index, cell}
use Rattle.model.specs.Steps.{steps_by, spread, upward, cyclic_steps, cyclic_going, is_past, next_by, cyclic_next}
use Rattle.model.specs.Questions.{first_no, of_section}
use Rattle.model.proofs.AcceptedLaws.{accepted}
use Rattle.model.proofs.SectionLaws.{Moved, spread-pos, cells-moved}
use Rattle.model.proofs.AddressLaws.{owns_of, of_owns, unowned}
use Rattle.model.proofs.Rests.{le-or-lt}
use Rattle.model.proofs.StepLaws.{step-cases}
use Rattle.model.proofs.WalkLaws.{leb-same, Nearest, walk-cells}

-- does processor q own the element at position t?
abbrev pub cyclic_owns : Section → ℕ → ℕ → Bool
cyclic_owns x q t = owns (owner_of (layout x)) q (index x t)

-- the step rule leads to the next position that the processor owns, or to the count
unfoldable pub CyclicWalks : Section → Type 0
CyclicWalks x =
    (q t : ℕ) → t < count x → cyclic_owns x q t ≡ true
    → cyclic_next x t ≡ head_or (count x) (passing (cyclic_owns x q) (suc t) (count x - suc t))

-- ---- is there a step?

abbrev pub Some : Steps → Type 0
Some NoStep = ⊥
Some (OneStep m) = Unit {0}
Some (TwoSteps r w) = Unit {0}

pub some-steps : (n M k S : ℕ) → 2 ≤ n → Some (steps_by n M k S)
some-steps n M k S l = step-cases Some n M k S (λ h. omega arith) (λ h d. tt) (λ h d. tt)

-- ---- an accepted section

module _ (x : Section) (ok : first_no (of_section x) ≡ 0) where
  -- from any position of two or more, going on leads to the nearest cell of the same owner
  pub going-nearest : 2 ≤ count x → (t : ℕ) → Nearest (layout x) (upward x) (cell x t) (spread x) (cyclic_going x t).cells
  unfolding cyclic_going cyclic_steps
  going-nearest h t =
      let z = (accepted x ok).sized in
      walk-cells (layout x) z.processors-pos z.block-pos (spread x) (spread-pos x ok) (count x) h (upward x) (cell x t)

  module _ (t : ℕ) (h : t < count x) where
    -- i times the spread leads past the last cell just where t + i is no position
    past : (i : ℕ) → is_past (upward x) (cell x t) (i * spread x) (cell x (count x - 1)) ≡ ltb (count x - 1 - t) i
    past i =
        let c = count x - 1 - t in
        let l : t + c ≡ count x - 1 = omega arith in
        subst (λ (z : ℕ). is_past (upward x) (cell x t) (i * spread x) (cell x z) ≡ ltb c i) l
        (go c (upward x) (cells-moved x ok t c (omega arith)))
      where
        up_to : (c : ℕ) → suc c ≤ i → c * spread x < i * spread x
        up_to c f = mul-lt-mul_of_pos_right f (spread-pos x ok)

        go : (c : ℕ) (up : Bool) → Moved up (cell x t) (cell x (t + c)) (c * spread x)
            → is_past up (cell x t) (i * spread x) (cell x (t + c)) ≡ ltb c i
        go c true e =
            leb-same (suc (cell x (t + c))) (cell x t + i * spread x) (suc c) i
            (λ f. lt_of_mul c i (spread x) (omega arith)) (λ f. omega (arith, up_to c f))
        go c false e =
            leb-same (suc (cell x t)) (cell x (t + c) + i * spread x) (suc c) i
            (λ f. lt_of_mul c i (spread x) (omega arith)) (λ f. omega (arith, up_to c f))

    -- with n cells to go, that are i times the spread
    pub next-by : (s : Steps) → Some s → (n i : ℕ) → n ≡ i * spread x → next_by x t n s ≡ cond (ltb (count x - 1 - t) i) (count x) (t + i)
    unfolding next_by
    next-by NoStep f n i e = absurd f
    next-by (OneStep m) f n i e = rw (div-eq_of_eq-mul_left (spread-pos x ok) e, e, past i)
    next-by (TwoSteps r w) f n i e = rw (div-eq_of_eq-mul_left (spread-pos x ok) e, e, past i)

    pub turned : (i : ℕ) → cond (ltb (count x - 1 - t) i) (count x) (t + i) ≡ cond (ltb (t + i) (count x)) (t + i) (count x)
    turned i = go (le-or-lt (count x) (t + i))
      where
        go : (count x ≤ t + i) ⊎ (t + i < count x)
            → cond (ltb (count x - 1 - t) i) (count x) (t + i) ≡ cond (ltb (t + i) (count x)) (t + i) (count x)
        go (inl l) = rw (lt-ltb (count x - 1 - t) i (omega arith), le-ltb (t + i) (count x) l)
        go (inr l) = rw (le-ltb (count x - 1 - t) i (omega arith), lt-ltb (t + i) (count x) l)

    -- with two or more positions, the next place by how many positions the cells to go are
    pub next-place-by : 2 ≤ count x
        → let u : ℕ = t + (cyclic_going x t).cells / spread x in cyclic_next x t ≡ cond (ltb u (count x)) u (count x)
    unfolding cyclic_next cyclic_steps
    next-place-by two =
        let m = (going-nearest two t).multiple in
        let e : (cyclic_going x t).cells / spread x ≡ m.index = div-eq_of_eq-mul_left (spread-pos x ok) m.cells in
        next-by (cyclic_steps x) (some-steps (count x) (course_cells (layout x)) (layout x).block (spread x) two) (cyclic_going x t).cells m.index m.cells
        ∙ turned m.index ∙ ap (λ (i : ℕ). cond (ltb (t + i) (count x)) (t + i) (count x)) (sym e)

    module _ (two : 2 ≤ count x) (q : ℕ) (mine : cyclic_owns x q t ≡ true) where
      w : Nearest (layout x) (upward x) (cell x t) (spread x) (cyclic_going x t).cells
      w = going-nearest two t

      i : ℕ
      i = w.multiple.index

      -- no position before t + i is the processor's
      before : (u : ℕ) → t < u → u < t + i → u < count x → cyclic_owns x q u ≡ false
      unfolding i owner_of cell
      before u a b l =
          unowned (owner_of (layout x)) q (index x u)
          (λ o. clash (w.least (u - t) (cell x u) (omega arith) moved (o ∙ sym (of_owns (owner_of (layout x)) q (index x t) mine))))
        where
          there : t + (u - t) ≡ u
          there = omega arith

          moved : Moved (upward x) (cell x t) (cell x u) ((u - t) * spread x)
          moved = subst (λ (z : ℕ). Moved (upward x) (cell x t) (cell x z) ((u - t) * spread x)) there (cells-moved x ok t (u - t) (omega arith))

          clash : (cyclic_going x t).cells ≤ (u - t) * spread x → ⊥
          clash g =
              let s : (u - t) * spread x < w.multiple.index * spread x = mul-lt-mul_of_pos_right (omega arith) (spread-pos x ok) in
              omega (arith, w.multiple.cells)

      lands : t + i < count x → cyclic_owns x q (t + i) ≡ true
      unfolding i owner_of cell
      lands l =
          owns_of (owner_of (layout x)) q (index x (t + i))
          (w.lands (cell x (t + i)) (rw w.multiple.cells (cells-moved x ok t i l)) ∙ of_owns (owner_of (layout x)) q (index x t) mine)

      next-owned : head_or (count x) (passing (cyclic_owns x q) (suc t) (count x - suc t)) ≡ cond (ltb (t + i) (count x)) (t + i) (count x)
      unfolding i
      next-owned =
          subst (λ (z : ℕ). head_or (count x) (passing (cyclic_owns x q) (suc t) (count x - suc t)) ≡ cond (ltb z (count x)) z (count x)) there
          (head-skip (cyclic_owns x q) (count x) (i - 1) (count x - suc t) (suc t) (omega arith)
          (λ u a b. before u a (omega (arith, there)))
          (λ l. rw there (lands (omega (arith, there)))))
        where
          there : suc t + (i - 1) ≡ t + i
          there = omega (arith, w.multiple.some)

      walk-on : cyclic_next x t ≡ head_or (count x) (passing (cyclic_owns x q) (suc t) (count x - suc t))
      unfolding i
      walk-on =
          let e : (cyclic_going x t).cells / spread x ≡ i = div-eq_of_eq-mul_left (spread-pos x ok) w.multiple.cells in
          next-place-by two ∙ ap (λ (n : ℕ). cond (ltb (t + n) (count x)) (t + n) (count x)) e ∙ sym next-owned

pub cyclic-walks : (x : Section) → first_no (of_section x) ≡ 0 → CyclicWalks x
unfolding CyclicWalks cyclic_next next_by cyclic_steps steps_by head_or
cyclic-walks x ok q t h e = go (le-or-lt 2 (count x))
  where
    go : (2 ≤ count x) ⊎ (count x < 2) → cyclic_next x t ≡ head_or (count x) (passing (cyclic_owns x q) (suc t) (count x - suc t))
    go (inl two) = walk-on x ok t h two q e
    go (inr l) =
        let z : count x - suc t ≡ 0 = omega arith in
        rw (lt-ltb (count x) 2 l, z, passing-none)
