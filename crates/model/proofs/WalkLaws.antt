-- The walk over cells: from a cell, going on by the steps leads to the nearest cell of the section, in walking direction,
-- that has the same owner. Downwards it is the walk upwards with the columns of a block counted from its end.
use Prim.Native.Nat.{ℕ, ◌+◌, ◌-◌, ◌*◌, ◌%◌, ◌≤◌, ◌<◌}
use mathlib.Core.Path.{◌≡◌, refl, sym, ◌∙◌}
use mathlib.Core.Bool.{Bool, true, false}
use mathlib.Core.Logic.{◌⊎◌, inl, inr, ⊎_elim}
use native.Mathlib.Nat.{mul-le-mul_right}
use native.Mathlib.Omega.{arith}
use lib.Dec.{leb}
use borrow.Author.Tests.{leb-true, leb-false, lt-ltb, le-ltb, le-leb, lt-leb}
use Rattle.numbers.specs.Gcd.{gcd}
use Rattle.model.specs.declared.Layout.{Layout}
use Rattle.model.specs.declared.Steps.{Steps}
use Rattle.model.specs.declared.Steps.TheVariants.{NoStep, OneStep, TwoSteps}
use Rattle.model.specs.Ownership.{cell_owner, course_cells, column_of}
use Rattle.model.specs.Steps.{
  processor_index,
  return_index,
  processor_step,
  return_step,
  one_step,
  steps_by,
  try_both,
  go_on,
}
use Rattle.model.specs.Smallest.{Multiple}
use Rattle.model.proofs.SectionLaws.{Moved}
use Rattle.model.proofs.Rests.{le-or-lt, Course, Rests, rests, Fits, walk-forward, walk-back, both-fit, walk-both}
use Rattle.model.proofs.CellOwners.{facing, block-le, column-lt, owner-fits, fits-owner}
use Rattle.model.proofs.StepLaws.{Paired, Either, paired, single, either, OneLaw, one-law}

-- ---- over columns

-- x is the least multiple of S that stays in the block from column q
pub record NextFit (M k S q x : ℕ) : Type 0 where
  pub multiple : Multiple S x
  pub fits : Fits M k q (x % M)
  pub least : (m : ℕ) → 0 < m → Fits M k q (m * S % M) → x ≤ m * S

next-fit : {M k S q : ℕ} (i : ℕ) {x : ℕ} → x ≡ i * S → 0 < i → Fits M k q (i * S % M)
    → ((m : ℕ) → 0 < m → Fits M k q (m * S % M) → i ≤ m) → NextFit M k S q x
next-fit {S = S} i e some f least =
    record {
      multiple = record { index = i; some = some; cells = e };
      fits = rw e f;
      least = λ m p g. omega (arith, mul-le-mul_right S (least m p g));
    }

module _ {M k S : ℕ} (h : Course M k S) (q : ℕ) (q<k : q < k) where
  R : Rests M (λ m. m * S % M)
  R = rests M S (omega arith)

  i : ℕ
  i = processor_index M k S

  j : ℕ
  j = return_index M k S

  try-both : Paired M k S → NextFit M k S q (try_both true k q (processor_step M k S) (return_step M k S)).cells
  unfolding processor_step return_step i j
  try-both p = go (leb (q + i * S % M) (k - 1)) refl (leb (M - j * S % M) q) refl
    where
      go : (x : Bool) → leb (q + i * S % M) (k - 1) ≡ x → (y : Bool) → leb (M - j * S % M) q ≡ y
          → NextFit M k S q (try_both true k q (processor_step M k S) (return_step M k S)).cells
      go true e y e' =
          let f : q + i * S % M < k = omega (arith, leb-true (q + i * S % M) (k - 1) e) in
          rw e
          (next-fit i refl p.processor.pos (inl f)
          (walk-forward h.block-le R p.processor p.back q f))
      go false e true e' =
          let f : M ≤ q + j * S % M = omega (arith, leb-true (M - j * S % M) q e') in
          rw (e, e')
          (next-fit j refl p.back.pos (inr f)
          (walk-back h.block-le R p.processor p.back q q<k f))
      go false e false e' =
          let f : k ≤ q + i * S % M = omega (arith, leb-false (q + i * S % M) (k - 1) e) in
          let g : q + j * S % M < M = omega (arith, leb-false (M - j * S % M) q e') in
          rw (e, e')
          (next-fit (i + j) (omega arith) (omega (arith, p.processor.pos))
          (both-fit h.block-le R p.processor p.back q q<k f g)
          (walk-both h.block-le R p.processor p.back q q<k f g))

  by_one : OneLaw M k S (one_step M S) → NextFit M k S q (one_step M S).cells
  by_one l = record { multiple = l.multiple; fits = l.fits q q<k; least = λ m. l.least q m q<k }

  pub walk-columns : (n : ℕ) → 2 ≤ n → NextFit M k S q (go_on true k q (steps_by n M k S)).cells
  unfolding steps_by
  walk-columns n l = go (either h)
    where
      go : Either M k S → NextFit M k S q (go_on true k q (steps_by n M k S)).cells
      go (paired d p) = rw (le-ltb n 2 l, lt-ltb (gcd S M) k d) (try-both p)
      go (single d s) = rw (le-ltb n 2 l, le-ltb (gcd S M) k d) (by_one (one-law h d))

-- ---- both directions

-- two tests that say the same
pub leb-same : (a b c d : ℕ) → (a ≤ b → c ≤ d) → (c ≤ d → a ≤ b) → leb a b ≡ leb c d
leb-same a b c d f g = go (le-or-lt a b)
  where
    go : (a ≤ b) ⊎ (b < a) → leb a b ≡ leb c d
    go (inl h) = le-leb a b h ∙ sym (le-leb c d (f h))
    go (inr h) = lt-leb a b h ∙ sym (lt-leb c d (⊎_elim (λ s. absurd (omega (arith, g s))) (λ s. s) (le-or-lt c d)))

-- going down from column q is going up from column k - 1 - q
pub mirror : (up : Bool) (k q : ℕ) → q < k → (s : Steps) → go_on up k q s ≡ go_on true k (facing up k q) s
mirror true k q h s = refl
mirror false k q h NoStep = refl
mirror false k q h (OneStep x) = refl
mirror false k q h (TwoSteps r w) =
    rw (
      leb-same r.column q (k - 1 - q + r.column) (k - 1) (λ f. omega arith) (λ f. omega arith),
      leb-same (q + w.column) (k - 1) w.column (k - 1 - q) (λ f. omega arith) (λ f. omega arith),
    )

-- ---- over cells

-- x cells from cell c, in walking direction, is the nearest cell in steps of S that has c's owner; it need not exist
pub record Nearest (m : Layout) (up : Bool) (c S x : ℕ) : Type 0 where
  pub multiple : Multiple S x
  pub lands : (z : ℕ) → Moved up c z x → cell_owner m z ≡ cell_owner m c
  pub least : (i z : ℕ) → 0 < i → Moved up c z (i * S) → cell_owner m z ≡ cell_owner m c → x ≤ i * S

module _ (m : Layout) (p-pos : 0 < m.processors) (k-pos : 0 < m.block) (S : ℕ) (S_pos : 0 < S) where
  pub course : Course (course_cells m) m.block S
  course = record { block-pos = k-pos; block-le = block-le m p-pos k-pos; spread-pos = S_pos }

  facing-lt : (up : Bool) (q : ℕ) → q < m.block → facing up m.block q < m.block
  facing-lt true q h = h
  facing-lt false q h = omega arith

  pub walk-cells : (n : ℕ) → 2 ≤ n → (up : Bool) (c : ℕ)
      → Nearest m up c S (go_on up m.block (column_of m c) (steps_by n (course_cells m) m.block S)).cells
  walk-cells n l up c =
      let q = column_of m c in
      let s = steps_by n (course_cells m) m.block S in
      let w : NextFit (course_cells m) m.block S (facing up m.block q) (go_on up m.block q s).cells =
      rw (mirror up m.block q (column-lt m p-pos k-pos c) s)
      (walk-columns course (facing up m.block q) (facing-lt up q (column-lt m p-pos k-pos c)) n l) in
      record {
        multiple = w.multiple;
        lands = λ z e. fits-owner m p-pos k-pos up c z (go_on up m.block q s).cells e w.fits;
        least = λ i z p e o. w.least i p (owner-fits m p-pos k-pos up c z (i * S) e o);
      }
