-- The elements of an accepted section: in range, each at one position, and c positions apart by c times the spread.
use Prim.Native.Nat.{ℕ, zero, suc, ◌+◌, ◌-◌, ◌*◌, ◌^◌, ◌≤◌, ◌<◌, zero-le}
use mathlib.Core.Path.{◌≡◌, refl, sym, ap, ◌∙◌, subst}
use mathlib.Core.Bool.{Bool, true, false}
use native.Mathlib.Nat.{add-mul, mul-add, mul-le-mul_left, mul-le-mul_right, mul-pos, le_trans}
use native.Mathlib.Omega.{arith}
use lib.Dec.{ltb}
use lib.IntN.{ℤ, pos, negsuc, neg_ℤ, nat_abs, ◌+ℤ◌, ◌-ℤ◌, ◌*ℤ◌, zero-*ℤ, +ℤ_idr, pos-ne-negsuc}
use lib.Signed.{non_neg}
use borrow.Author.Tests.{ltb-false, ltb-true, le-ltb}
use Rattle.numbers.proofs.Division.{product_le}
use Rattle.model.specs.Mappings.{Section}
use Rattle.model.specs.Ownership.{nat, from_lower, declared_index, layout_of, cell_of}
use Rattle.model.specs.Sections.{element_at, layout, count, index, cell}
use Rattle.model.specs.Steps.{spread, upward}
use Rattle.model.specs.Questions.{most_stride, first_no, of_section}
use Rattle.model.specs.Demand3.{apart}
use Rattle.model.proofs.BoundLaws.{swapped, declared-from}
use Rattle.model.proofs.QuestionLaws.{Below}
use Rattle.model.proofs.AcceptedLaws.{stride-in, index_is, Accepted, mapping-yes, accepted}

-- ---- integers

minus : (L X : ℕ) → X ≤ L → pos L +ℤ neg_ℤ (pos X) ≡ pos (L - X)
minus L zero h = ap pos (omega arith)
minus L (suc Y) h = rw (le-ltb L (suc Y) h)

minus-le : (L X K : ℕ) → pos L +ℤ neg_ℤ (pos X) ≡ pos K → X ≤ L
minus-le L zero K e = zero-le
minus-le L (suc Y) K e = go (ltb L (suc Y)) refl
  where
    go : (b : Bool) → ltb L (suc Y) ≡ b → suc Y ≤ L
    go true p = absurd (pos-ne-negsuc _ _ (sym (rw p at e)))
    go false p = ltb-false L (suc Y) p

-- A section with elements at the positions 0 to N rises from L, or falls from it.
data Shape (n N : ℕ) : ℤ → ℤ → Type 0 where
  up : {L m : ℕ} → L + N * m < n → Shape n N (pos L) (pos m)
  down : {L m : ℕ} → L < n → N * suc m ≤ L → Shape n N (pos L) (negsuc m)

-- the element at a position
abbrev elem : ℤ → ℤ → ℕ → ℤ
elem l s t = l +ℤ pos t *ℤ s

elem-zero : (l s : ℤ) → elem l s 0 ≡ l
elem-zero l s = ap (λ (z : ℤ). l +ℤ z) (zero-*ℤ s) ∙ +ℤ_idr l

shape : (n N : ℕ) (l s : ℤ) → Below l n → Below (elem l s N) n → Shape n N l s
unfolding nat
shape n N (pos L) (pos m) a b = up b.below
shape n N (pos L) (negsuc m) a b = down a.below (minus-le L (N * suc m) _ b.whole)
shape n N (negsuc L) s a b = absurd (pos-ne-negsuc _ _ (sym a.whole))

at_lt : {n N : ℕ} {l s : ℤ} → Shape n N l s → (t : ℕ) → t ≤ N → nat (elem l s t) < n
unfolding nat
at_lt (up {L} {m} h) t k = omega (arith, mul-le-mul_right m k)
at_lt (down {L} {m} h g) t k = rw (minus L (t * suc m) (le_trans (mul-le-mul_right (suc m) k) g)) (omega arith)

at-whole : {n N : ℕ} {l s : ℤ} → Shape n N l s → (t : ℕ) → t ≤ N → elem l s t ≡ pos (nat (elem l s t))
unfolding nat
at-whole (up {L} {m} h) t k = refl
at-whole (down {L} {m} h g) t k = rw (minus L (t * suc m) (le_trans (mul-le-mul_right (suc m) k) g))

-- y lies d above x, or d below it
abbrev pub Moved : Bool → ℕ → ℕ → ℕ → Type 0
Moved true x y d = y ≡ x + d
Moved false x y d = x ≡ y + d

-- c positions on, the index has moved by c times the size of s, up or down
at_moved : {n N : ℕ} {l s : ℤ} → Shape n N l s → (t c : ℕ) → t + c ≤ N
    → Moved (non_neg s) (nat (elem l s t)) (nat (elem l s (t + c))) (c * nat_abs s)
unfolding nat
at_moved (up {L} {m} h) t c k = omega (arith, add-mul t c m)
at_moved (down {L} {m} h g) t c k =
    let a : (t + c) * suc m ≤ L = le_trans (mul-le-mul_right (suc m) k) g in
    let b : (t + c) * suc m ≡ t * suc m + c * suc m = add-mul t c (suc m) in
    rw (minus L (t * suc m) (omega arith), minus L ((t + c) * suc m) a) (omega arith)

moved_apart : (b : Bool) (c z d : ℕ) → Moved b c z d → apart c z ≡ d
moved_apart true c z d e = omega arith
moved_apart false c z d e = omega arith

-- ---- an accepted section

module _ (x : Section) (ok : first_no (of_section x) ≡ 0) where
  a : Accepted x
  a = accepted x ok

  pub spread-pos : 0 < spread x
  unfolding spread
  spread-pos = mul-pos a.sized.stride-pos a.step-pos

  -- l counted from 0, and the section's elements from there on
  from : ℤ
  from = x.triplet.lower -ℤ x.mapping.lower

  moved_by : (t : ℕ) → element_at x.triplet t -ℤ x.mapping.lower ≡ elem from x.triplet.stride t
  unfolding element_at from
  moved_by t = swapped x.triplet.lower x.mapping.lower (pos t *ℤ x.triplet.stride)

  index-elem : (t : ℕ) → index x t ≡ nat (elem from x.triplet.stride t)
  unfolding index from_lower
  index-elem t = ap nat (moved_by t)

  shaped : 0 < count x → Shape (layout x).size (count x - 1) from x.triplet.stride
  unfolding layout
  shaped h =
      let s = x.triplet.stride in
      shape (layout x).size (count x - 1) from s
      (subst (λ (z : ℤ). Below z (layout x).size) (moved_by 0 ∙ elem-zero from s) (index_is x.mapping (element_at x.triplet 0) (a.first-inside h)))
      (subst (λ (z : ℤ). Below z (layout x).size) (moved_by (count x - 1)) (index_is x.mapping (element_at x.triplet (count x - 1)) (a.last-inside h)))

  -- every position holds an element of the array
  pub index-lt : (t : ℕ) → t < count x → index x t < (layout x).size
  index-lt t h = rw (index-elem t) (at_lt (shaped (omega arith)) t (omega arith))

  -- and its index leads back to the declared one
  pub declared-at : (t : ℕ) → t < count x → declared_index x.mapping (index x t) ≡ element_at x.triplet t
  unfolding index from_lower
  declared-at t h =
      declared-from x.mapping (element_at x.triplet t)
      (moved_by t ∙ at-whole (shaped (omega arith)) t (omega arith) ∙ ap pos (sym (index-elem t)))

  pub cell-lt : (t : ℕ) → t < count x → cell x t < (layout x).cells
  unfolding cell cell_of
  cell-lt t h =
      let i : index x t ≤ (layout x).size - 1 = omega (arith, index-lt t h) in
      omega (arith, mul-le-mul_left (layout x).stride i, a.sized.inside (omega (arith, index-lt t h)))

  -- c positions on, the index has moved by c times the size of s, in walking direction
  pub index-moved : (t c : ℕ) → t + c < count x → Moved (upward x) (index x t) (index x (t + c)) (c * nat_abs x.triplet.stride)
  unfolding upward
  index-moved t c h = rw (index-elem t, index-elem (t + c)) (at_moved (shaped (omega arith)) t c (omega arith))

  -- c positions on, the cell lies c times the spread away, in walking direction
  pub cells-moved : (t c : ℕ) → t + c < count x → Moved (upward x) (cell x t) (cell x (t + c)) (c * spread x)
  unfolding cell cell_of spread
  cells-moved t c h = go (upward x) (index-moved t c h)
    where
      k : ℕ
      k = (layout x).stride

      w : ℕ
      w = nat_abs x.triplet.stride

      far : (i : ℕ) → k * (i + c * w) ≡ k * i + c * (k * w)
      far i = omega (arith, mul-add k i (c * w))

      go : (b : Bool) → Moved b (index x t) (index x (t + c)) (c * w) → Moved b (cell x t) (cell x (t + c)) (c * (k * w))
      go true e = rw (e, far (index x t)) (omega arith)
      go false e = rw (e, far (index x (t + c))) (omega arith)

  pub cells-apart : (t c : ℕ) → t + c < count x → apart (cell x t) (cell x (t + c)) ≡ c * spread x
  cells-apart t c h = moved_apart (upward x) (cell x t) (cell x (t + c)) (c * spread x) (cells-moved t c h)

  -- by questions 4 and 6
  pub spread-fits : spread x < 2 ^ 43
  unfolding spread layout layout_of
  spread-fits =
      omega (arith, product_le most_stride 2147483647 (stride-in x.mapping (mapping-yes x ok)).upto a.step-high)

  -- two elements lie in the cells, so that the spread is no larger than their number
  pub spread-high : 2 ≤ count x → spread x < 2147483648
  spread-high h = omega (arith, cells-apart 0 1 h, cell-lt 0 (omega arith), cell-lt (0 + 1) h, a.sized.cells-high)

  -- each element stands at one position
  pub index-inj : (t u : ℕ) → t < count x → u < count x → index x t ≡ index x u → t ≡ u
  index-inj t u h k e = go (ltb t u) refl (ltb u t) refl
    where
      clash : (v w : ℕ) → v < w → w < count x → index x v ≡ index x w → ⊥
      clash v w l m p =
          let z : ℕ = index x (v + (w - v)) in
          let s : v + (w - v) ≡ w = omega arith in
          let same : z ≡ index x v = ap (index x) s ∙ sym p in
          let n : ℕ = (w - v) * nat_abs x.triplet.stride in
          let far : apart (index x v) z ≡ n = moved_apart (upward x) (index x v) z n (index-moved v (w - v) (omega arith)) in
          let some : 0 < n = mul-pos (omega arith) a.step-pos in
          omega arith

      go : (b : Bool) → ltb t u ≡ b → (d : Bool) → ltb u t ≡ d → t ≡ u
      go true p d r = absurd (clash t u (ltb-true t u p) k e)
      go false p true r = absurd (clash u t (ltb-true u t r) h (sym e))
      go false p false r = omega (arith, ltb-false t u p, ltb-false u t r)
