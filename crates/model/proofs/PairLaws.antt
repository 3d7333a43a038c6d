-- Laws of pairs of numbers as one number, the first of them below n, and of counting pairs. Assumes nothing.
use Prim.Native.Nat.{ℕ, zero, suc, ◌+◌, ◌*◌, ◌/◌, ◌%◌, ◌≤◌, ◌<◌}
use mathlib.Core.Path.{◌≡◌, refl, sym, ap, ◌∙◌}
use mathlib.Core.Bool.{Bool, true, false, cond, ◌&&◌}
use native.Mathlib.Nat.{mod-add-div, mod-lt, lt_of_mul-lt-mul_left, mul-le-mul_left, mul-zero, suc-add, zero-add, le_refl}
use native.Mathlib.Omega.{arith}
use lib.Dec.{eqb}
use borrow.Author.Tests.{eq-eqb, ne_eqb, eqb-true, eqb-false}
use Rattle.numbers.specs.Search.{tally}
use Rattle.numbers.proofs.Division.{div_is, rest-is}
use Rattle.numbers.proofs.SearchLaws.{tally-none, tally-next}
use Rattle.model.specs.Axes.{paired}

-- ---- a pair's parts
module _ (n : ℕ) where
  pub pair-first : (x y : ℕ) → x < n → paired n x y % n ≡ x
  pair-first x y h = rest-is n y x (paired n x y) (omega arith) h

  pub pair-second : (x y : ℕ) → x < n → paired n x y / n ≡ y
  pair-second x y h = div_is n y x (paired n x y) (omega arith) h

  -- every number is a pair
  pub pair_of : (i : ℕ) → paired n (i % n) (i / n) ≡ i
  pair_of i = mod-add-div i n

  -- the parts of a number below n * m
  pub first-lt : (m i : ℕ) → i < n * m → i % n < n
  first-lt m i h = mod-lt i (go n h)
    where
      go : (k : ℕ) → i < k * m → 0 < k
      go zero l = absurd (omega arith)
      go (suc k) l = omega arith

  pub second_lt : (m i : ℕ) → i < n * m → i / n < m
  second_lt m i h = lt_of_mul-lt-mul_left n (omega (arith, mod-add-div i n))

  pub pair_lt : (m x y : ℕ) → x < n → y < m → paired n x y < n * m
  pair_lt m x y h l = omega (arith, mul-le-mul_left n l)

  pub pair_same : (x y x' y' : ℕ) → x < n → x' < n → paired n x y ≡ paired n x' y' → (x ≡ x') × (y ≡ y')
  pair_same x y x' y' h h' e = (
    sym (pair-first x y h) ∙ ap (λ (i : ℕ). i % n) e ∙ pair-first x' y' h',
    sym (pair-second x y h) ∙ ap (λ (i : ℕ). i / n) e ∙ pair-second x' y' h',
  )

  pub pair-eqb : (x y x' y' : ℕ) → x < n → x' < n → eqb (paired n x y) (paired n x' y') ≡ (eqb x x' && eqb y y')
  pair-eqb x y x' y' h h' = go (eqb x x') (eqb y y') refl refl
    where
      same : paired n x y ≡ paired n x' y' → (x ≡ x') × (y ≡ y')
      same = pair_same x y x' y' h h'

      go : (s t : Bool) → eqb x x' ≡ s → eqb y y' ≡ t → eqb (paired n x y) (paired n x' y') ≡ (s && t)
      go true true p q = eq-eqb (paired n x y) (paired n x' y') (cc (eqb-true x x' p, eqb-true y y' q))
      go true false p q = ne_eqb _ _ (λ e. eqb-false y y' q (same e).1)
      go false t p q = ne_eqb _ _ (λ e. eqb-false x x' p (same e).0)

-- ---- counting: h passes a pair where f passes its first part and g its second
module _ (n : ℕ) (f g h : ℕ → Bool) (pairs : (x y : ℕ) → x < n → h (paired n x y) ≡ (f x && g y)) where
  -- row y has the pairs whose first part f passes, if g passes y
  in_row : (y x : ℕ) → x ≤ n → tally h (paired n x y) ≡ cond (g y) (tally f x) 0 + tally h (n * y)
  in_row y zero l = rw zero-add (omega (arith, none (g y)))
    where
      none : (t : Bool) → cond t (tally f 0) 0 ≡ 0
      none true = tally-none f
      none false = refl
  in_row y (suc x) l =
      rw (suc-add, tally-next h, pairs x y l, tally-next f, in_row y x (omega arith)) (omega (arith, more (f x) (g y)))
    where
      more : (s t : Bool) → cond t (tally f x + cond s 1 0) 0 ≡ cond t (tally f x) 0 + cond (s && t) 1 0
      more true true = refl
      more true false = refl
      more false true = refl
      more false false = refl

  -- whole rows
  pub tally-rows : (y : ℕ) → tally h (n * y) ≡ tally f n * tally g y
  tally-rows zero = simp (mul-zero, tally-none)
  tally-rows (suc y) =
      let e : n * suc y ≡ paired n n y = omega arith in
      rw (e, in_row y n (le_refl n), tally-rows y, tally-next g) (omega (arith, times (g y)))
    where
      times : (t : Bool) → tally f n * cond t 1 0 ≡ cond t (tally f n) 0
      times true = omega arith
      times false = omega arith

  -- the pairs before a pair are the rows below, and in its row those before it
  pub tally-pairs : (x y : ℕ) → x ≤ n
      → tally h (paired n x y) ≡ paired (tally f n) (cond (g y) (tally f x) 0) (tally g y)
  tally-pairs x y l = omega (arith, in_row y x l, tally-rows y)
