-- Elements of one processor whose columns lie whole alignment strides apart: from both to elements of the processor n on that
-- lie as far apart, the count of the processor's elements grows alike. Assumes nothing.
use Prim.Native.Nat.{ℕ, ◌+◌, ◌*◌, ◌/◌, ◌%◌, ◌≤◌, ◌<◌}
use mathlib.Core.Path.{◌≡◌, sym, ap, ◌∙◌}
use mathlib.Core.Bool.{Bool, true}
use mathlib.Core.Logic.{◌⊎◌, inl, inr}
use native.Mathlib.Nat.{div-add-mod', add-mod, mod-eq_of_lt, mul-add-mod_self_right, mul-le-mul_left, div-eq_of_lt-le}
use native.Mathlib.Omega.{arith}
use lib.Dec.{eqb}
use Rattle.numbers.specs.Search.{tally}
use Rattle.numbers.proofs.TallyLaws.{tally-run, tally-window}
use Rattle.model.specs.declared.Layout.{Layout}
use Rattle.model.specs.Ownership.{owns, cell_of, cell_owner, course_cells, column_of, owner_of}
use Rattle.model.proofs.AddressLaws.{owns_of, of_owns}
use Rattle.model.proofs.CellOwners.{owner-rest, column-lt, split}

module _ (l : Layout) (p-pos : 0 < l.processors) (k-pos : 0 < l.block) where
  -- cells with the same rest are followed alike
  owner-alike : (c c' n : ℕ) → c % course_cells l ≡ c' % course_cells l → cell_owner l (c + n) ≡ cell_owner l (c' + n)
  owner-alike c c' n e = at c ∙ ap (λ (z : ℕ). (z + n % course_cells l) % course_cells l / l.block) e ∙ sym (at c')
    where
      at : (z : ℕ) → cell_owner l (z + n) ≡ (z % course_cells l + n % course_cells l) % course_cells l / l.block
      at z = owner-rest l p-pos k-pos (z + n) ∙ ap (λ (y : ℕ). y / l.block) (add-mod z n (course_cells l))

  -- and so have one owner and one column
  rest-same : (c c' : ℕ) → cell_owner l c ≡ cell_owner l c' → column_of l c ≡ column_of l c' → c % course_cells l ≡ c' % course_cells l
  rest-same c c' o e = omega (arith, split l p-pos k-pos c, split l p-pos k-pos c', ap (λ (n : ℕ). n * l.block) o)

  module _ (q : ℕ) where
    -- does the processor own element i, and in which column?
    abbrev test : ℕ → Bool
    test i = owns (owner_of l) q i

    abbrev pub column_in : ℕ → ℕ
    column_in i = column_of l (cell_of l i)

    owned : (i : ℕ) → test i ≡ true → cell_owner l (cell_of l i) ≡ q
    unfolding owner_of
    owned i o = of_owns (owner_of l) q i o

    further : (i j : ℕ) → cell_of l (i + j) ≡ cell_of l i + l.stride * j
    unfolding cell_of
    further i j = omega arith

    -- elements in one column are followed alike
    followed : (i i' : ℕ) → test i ≡ true → test i' ≡ true → column_in i ≡ column_in i' → (j : ℕ) → test (i + j) ≡ test (i' + j)
    unfolding owns owner_of
    followed i i' o o' c j =
        let r = rest-same (cell_of l i) (cell_of l i') (owned i o ∙ sym (owned i' o')) c in
        ap (λ (y : ℕ). eqb (cell_owner l y) q) (further i j)
        ∙ ap (λ (y : ℕ). eqb y q) (owner-alike (cell_of l i) (cell_of l i') (l.stride * j) r)
        ∙ sym (ap (λ (y : ℕ). eqb (cell_owner l y) q) (further i' j))

    -- j elements on in the block
    module _ (i j : ℕ) (o : test i ≡ true) (h : column_in i + l.stride * j < l.block) where
      pub stays-owned : test (i + j) ≡ true
      unfolding owner_of column_of cell_owner
      stays-owned =
          let c = cell_of l i in
          let same : cell_of l (i + j) / l.block ≡ c / l.block =
          div-eq_of_lt-le l.block (omega (arith, further i j, div-add-mod' c l.block)) (omega (arith, further i j, div-add-mod' c l.block, h)) in
          owns_of (owner_of l) q (i + j) (ap (λ (z : ℕ). z % l.processors) same ∙ owned i o)

      stays-column : column_in (i + j) ≡ column_in i + l.stride * j
      unfolding column_of
      stays-column =
          let c = cell_of l i in
          let e : cell_of l (i + j) ≡ c / l.block * l.block + (c % l.block + l.stride * j) = omega (arith, further i j, div-add-mod' c l.block) in
          ap (λ (z : ℕ). z % l.block) e ∙ mul-add-mod_self_right (c / l.block) l.block _ ∙ mod-eq_of_lt h

    -- the j elements from i on are all the processor's
    run : (i j : ℕ) → test i ≡ true → column_in i + l.stride * j < l.block → tally test (i + j) ≡ tally test i + j
    run i j o h = tally-run test i j (λ x g.
        let s : l.stride * x ≤ l.stride * j = mul-le-mul_left l.stride (omega arith) in
        stays-owned i x o (omega arith))

    -- j strides apart
    strides-apart : (i i' n j : ℕ) → test i ≡ true → test i' ≡ true → test (i + n) ≡ true → column_in i' ≡ column_in i + l.stride * j
        → column_in (i' + n) ≡ column_in (i + n) + l.stride * j → tally test (i + n) + tally test i' ≡ tally test (i' + n) + tally test i
    strides-apart i i' n j o o' p e f =
        let h : column_in i + l.stride * j < l.block = omega (arith, column-lt l p-pos k-pos (cell_of l i')) in
        let g : column_in (i + n) + l.stride * j < l.block = omega (arith, column-lt l p-pos k-pos (cell_of l (i' + n))) in
        let w = tally-window test (i + j) i' n (followed (i + j) i' (stays-owned i j o h) o' (stays-column i j o h ∙ sym e)) in
        let s : i + n + j ≡ i + j + n = omega arith in
        omega (arith, w, run i j o h, run (i + n) j p g, ap (tally test) s)

    -- whichever is the lower column
    pub classes-alike : (i i' h h' n j : ℕ) → h ≡ i + n → h' ≡ i' + n → test i ≡ true → test i' ≡ true → test h ≡ true → test h' ≡ true
        → (column_in i' ≡ column_in i + l.stride * j) ⊎ (column_in i ≡ column_in i' + l.stride * j)
        → column_in h + column_in i' ≡ column_in h' + column_in i → tally test h + tally test i' ≡ tally test h' + tally test i
    classes-alike i i' h h' n j e e' o o' p p' apart f = rw (e, e') (go apart (rw (e, e') at f))
      where
        go : (column_in i' ≡ column_in i + l.stride * j) ⊎ (column_in i ≡ column_in i' + l.stride * j)
            → column_in (i + n) + column_in i' ≡ column_in (i' + n) + column_in i → tally test (i + n) + tally test i' ≡ tally test (i' + n) + tally test i
        go (inl a) g = strides-apart i i' n j o o' (rw e at p) a (omega arith)
        go (inr a) g = sym (strides-apart i' i n j o' o (rw e' at p') a (omega arith))
