-- How the local address moves from a position of an accepted section to one n positions on, of the same processor: with
-- alignment stride 1, with section stride 1 or -1, and alike from the same column. Assumes nothing.
use Prim.Native.Nat.{ℕ, ◌+◌, ◌-◌, ◌*◌, ◌/◌, ◌<◌}
use mathlib.Core.Path.{◌≡◌, sym, ap, ◌∙◌, subst}
use mathlib.Core.Bool.{Bool, true, false}
use mathlib.Core.Logic.{◌⊎◌, inl, inr, ⊎_elim}
use native.Mathlib.Nat.{div-add-mod', eq_of_mul-eq-mul_right}
use native.Mathlib.Omega.{arith}
use lib.IntN.{nat_abs}
use Rattle.numbers.specs.Search.{tally}
use Rattle.numbers.proofs.TallyLaws.{tally-gap}
use Rattle.model.specs.declared.Layout.{Layout}
use Rattle.model.specs.Mappings.{Section}
use Rattle.model.specs.Ownership.{owns, held, cell_owner, course_cells, course_of, column_of, owner_of}
use Rattle.model.specs.Sections.{layout, count, index, cell, address}
use Rattle.model.specs.Steps.{spread, upward}
use Rattle.model.specs.Questions.{first_no, of_section}
use Rattle.model.proofs.AddressLaws.{of_owns, rank_is}
use Rattle.model.proofs.AcceptedLaws.{accepted}
use Rattle.model.proofs.SectionLaws.{Moved, index-moved, cells-moved}
use Rattle.model.proofs.CellOwners.{course-pos, column-lt, split}
use Rattle.mapping.proofs.CellLaws.{cells, rank-direct}
use Rattle.fill.specs.SectionMoves.{cyclic_owns, cyclic_address, on_way, column_at}
use Rattle.fill.proofs.ColumnClasses.{classes-alike}

-- ---- cells

module _ (l : Layout) (p-pos : 0 < l.processors) (k-pos : 0 < l.block) where
  -- cells of one owner that lie d courses and y₁ - y₂ columns apart
  courses-apart : (c c' d y₁ y₂ : ℕ) → cell_owner l c' ≡ cell_owner l c → c' + y₂ ≡ c + d * course_cells l + y₁
      → column_of l c' + y₂ ≡ column_of l c + y₁ → course_of l c' ≡ course_of l c + d
  unfolding course_of
  courses-apart c c' d y₁ y₂ o e f =
      let r = split l p-pos k-pos c in
      let r' = split l p-pos k-pos c' in
      let s = ap (λ (n : ℕ). n * l.block) o in
      eq_of_mul-eq-mul_right (course_cells l) (course-pos l p-pos k-pos) (c' / course_cells l) (c / course_cells l + d)
      (omega (arith, div-add-mod' c (course_cells l), div-add-mod' c' (course_cells l)))

-- ---- an accepted section
module _ (x : Section) (ok : first_no (of_section x) ≡ 0) (q : ℕ) where
  p-pos : 0 < (layout x).processors
  p-pos = (accepted x ok).sized.processors-pos

  k-pos : 0 < (layout x).block
  k-pos = (accepted x ok).sized.block-pos

  -- the owner of the cell at a position of the processor
  owned : (t : ℕ) → cyclic_owns x q t ≡ true → cell_owner (layout x) (cell x t) ≡ q
  unfolding owner_of cell
  owned t o = of_owns (owner_of (layout x)) q (index x t) o

  -- does the processor own element i?
  abbrev test : ℕ → Bool
  test i = owns (owner_of (layout x)) q i

  address_is : (t : ℕ) → cyclic_owns x q t ≡ true → cyclic_address x t ≡ tally test (index x t)
  unfolding address held owner_of cell
  address_is t o = rank_is (owner_of (layout x)) q (index x t) (owned t o)

  moved_address : (t u d : ℕ) → cyclic_owns x q t ≡ true → cyclic_owns x q u ≡ true
      → Moved (upward x) (tally test (index x t)) (tally test (index x u)) d → Moved (upward x) (cyclic_address x t) (cyclic_address x u) d
  moved_address t u d o o' h = rw (address_is t o, address_is u o') h

  -- ---- alignment stride 1
  direct : (layout x).stride ≡ 1 → (t : ℕ) → cyclic_owns x q t ≡ true
      → cyclic_address x t + cells (layout x) q (layout x).offset ≡ (layout x).block * course_of (layout x) (cell x t) + column_of (layout x) (cell x t)
  unfolding address owner_of cell
  direct one t o =
      ap (λ (z : ℕ). cyclic_address x t + cells (layout x) z (layout x).offset) (sym (owned t o))
      ∙ rank-direct (layout x) (accepted x ok).sized one (index x t)

  -- n positions on, which are c courses and y₁ - y₂ columns: the address moves by c·k + y₁ - y₂
  pub line-moves : (layout x).stride ≡ 1 → (t n c y₁ y₂ d : ℕ) → t + n < count x → cyclic_owns x q t ≡ true → cyclic_owns x q (t + n) ≡ true
      → n * spread x + y₂ ≡ c * course_cells (layout x) + y₁ → column_at x (t + n) + y₂ ≡ column_at x t + y₁
      → d + y₂ ≡ c * (layout x).block + y₁ → Moved (upward x) (cyclic_address x t) (cyclic_address x (t + n)) d
  unfolding column_at
  line-moves one t n c y₁ y₂ d l o o' e f g = go (upward x) (cells-moved x ok t n l) f
    where
      go : (up : Bool) → Moved up (cell x t) (cell x (t + n)) (n * spread x)
          → on_way up (layout x).block (column_of (layout x) (cell x (t + n))) + y₂ ≡ on_way up (layout x).block (column_of (layout x) (cell x t)) + y₁
          → Moved up (cyclic_address x t) (cyclic_address x (t + n)) d
      go true h k =
          let s = courses-apart (layout x) p-pos k-pos (cell x t) (cell x (t + n)) c y₁ y₂ (owned (t + n) o' ∙ sym (owned t o)) (omega arith) k in
          omega (arith, direct one t o, direct one (t + n) o', ap (λ (z : ℕ). (layout x).block * z) s)
      go false h k =
          let u = column-lt (layout x) p-pos k-pos (cell x t) in
          let v = column-lt (layout x) p-pos k-pos (cell x (t + n)) in
          let s = courses-apart (layout x) p-pos k-pos (cell x (t + n)) (cell x t) c y₁ y₂ (owned t o ∙ sym (owned (t + n) o')) (omega arith) (omega arith) in
          omega (arith, direct one t o, direct one (t + n) o', ap (λ (z : ℕ). (layout x).block * z) s)

  -- ---- section stride 1 or -1: from a position of the processor to its next one, the address moves by 1
  pub ones-move : nat_abs x.triplet.stride ≡ 1 → (t n : ℕ) → t + n < count x → cyclic_owns x q t ≡ true → cyclic_owns x q (t + n) ≡ true → 0 < n
      → ((j : ℕ) → 0 < j → j < n → cyclic_owns x q (t + j) ≡ false) → Moved (upward x) (cyclic_address x t) (cyclic_address x (t + n)) 1
  ones-move one t n l o o' some none = moved_address t (t + n) 1 o o' (go (upward x) (at n l) (λ j h. at j (omega arith)))
    where
      at : (j : ℕ) → t + j < count x → Moved (upward x) (index x t) (index x (t + j)) j
      at j h =
          let e : j * nat_abs x.triplet.stride ≡ j = omega (arith, ap (λ (z : ℕ). j * z) one) in
          subst (Moved (upward x) (index x t) (index x (t + j))) e (index-moved x ok t j h)

      go : (up : Bool) → Moved up (index x t) (index x (t + n)) n → ((j : ℕ) → j < n → Moved up (index x t) (index x (t + j)) j)
          → Moved up (tally test (index x t)) (tally test (index x (t + n))) 1
      go true e f =
          ap (tally test) e
          ∙ tally-gap test (index x t) n some o (λ j h k. ap test (sym (f j k)) ∙ none j h k)
      go false e f =
          ap (tally test) e
          ∙ tally-gap test (index x (t + n)) n some o'
          (λ j h k. let z : index x (t + n) + j ≡ index x (t + (n - j)) = omega (arith, f (n - j) (omega arith)) in
          ap test z ∙ none (n - j) (omega arith) (omega arith))

  -- ---- any strides: from columns that lie whole alignment strides apart, by n positions that go on alike in columns
  module _ (t t' n j : ℕ) (l : t + n < count x) (l' : t' + n < count x) (o : cyclic_owns x q t ≡ true) (o' : cyclic_owns x q t' ≡ true)
      (p : cyclic_owns x q (t + n) ≡ true) (p' : cyclic_owns x q (t' + n) ≡ true) where
    pub strides-alike : (column_at x t' ≡ column_at x t + (layout x).stride * j) ⊎ (column_at x t ≡ column_at x t' + (layout x).stride * j)
        → column_at x (t + n) + column_at x t' ≡ column_at x (t' + n) + column_at x t → cyclic_address x (t + n) + cyclic_address x t' ≡ cyclic_address x (t' + n) + cyclic_address x t
    unfolding column_at cell
    strides-alike apart even =
        rw (address_is t o, address_is t' o', address_is (t + n) p, address_is (t' + n) p')
        (go (upward x) (index-moved x ok t n l) (index-moved x ok t' n l') apart even)
      where
        -- columns, of the processor's elements
        column : ℕ → ℕ
        column u = column_of (layout x) (cell x u)

        low : (u : ℕ) → column u < (layout x).block
        low u = column-lt (layout x) p-pos k-pos (cell x u)

        go : (up : Bool) → Moved up (index x t) (index x (t + n)) (n * nat_abs x.triplet.stride)
            → Moved up (index x t') (index x (t' + n)) (n * nat_abs x.triplet.stride)
            → (on_way up (layout x).block (column t') ≡ on_way up (layout x).block (column t) + (layout x).stride * j)
            ⊎ (on_way up (layout x).block (column t) ≡ on_way up (layout x).block (column t') + (layout x).stride * j)
            → on_way up (layout x).block (column (t + n)) + on_way up (layout x).block (column t')
            ≡ on_way up (layout x).block (column (t' + n)) + on_way up (layout x).block (column t)
            → tally test (index x (t + n)) + tally test (index x t') ≡ tally test (index x (t' + n)) + tally test (index x t)
        go true h h' a e = classes-alike (layout x) p-pos k-pos q _ _ _ _ (n * nat_abs x.triplet.stride) j h h' o o' p p' a e
        go false h h' a e =
            let turned : (column (t' + n) ≡ column (t + n) + (layout x).stride * j) ⊎ (column (t + n) ≡ column (t' + n) + (layout x).stride * j) =
            ⊎_elim (λ z. inr (omega (arith, low t, low t', low (t + n), low (t' + n)))) (λ z. inl (omega (arith, low t, low t', low (t + n), low (t' + n)))) a in
            omega (arith, classes-alike (layout x) p-pos k-pos q _ _ _ _ (n * nat_abs x.triplet.stride) j h h' p p' o o' turned (omega (arith, low t, low t', low (t + n), low (t' + n))))
