-- Laws of sums of quotients: whole multiples taken out, divisor and step in each other's place, and what fits. Assumes nothing.
use Prim.Native.Nat.{ℕ, zero, suc, ◌+◌, ◌-◌, ◌*◌, ◌/◌, ◌%◌, ◌^◌, ◌≤◌, ◌<◌}
use mathlib.Core.Path.{◌≡◌, refl, sym, ap, ◌∙◌}
use mathlib.Core.Logic.{⊎_elim}
use native.Mathlib.Nat.{
  le_refl,
  le_of_lt,
  eq-zero-or-pos,
  div-add-mod',
  mod-lt,
  mod-le,
  mul-add-div_right,
  div-eq_of_lt,
  add-div_right,
  mul-le-mul,
  mul-le-mul_right,
  mul-le-mul_left,
  div-le_self,
  div-lt_iff_lt-mul,
}
use native.Mathlib.Decide.{dec_le}
use native.Mathlib.Omega.{arith}
use Rattle.numbers.specs.FloorSum.{floor_sum, tri, SumFits}
use Rattle.numbers.proofs.Division.{div_is}

pub tri-closed : (n : ℕ) → tri n + tri n + n ≡ n * n
unfolding tri
tri-closed zero = refl
tri-closed (suc n) = omega (arith, tri-closed n)

pub tri-half : (n : ℕ) → (n * n - n) / 2 ≡ tri n
tri-half n = omega (arith, tri-closed n)

-- ---- one term more, and the same sum over smaller numbers
pub sum-none : (m a b : ℕ) → floor_sum 0 m a b ≡ 0
unfolding floor_sum
sum-none m a b = refl

pub sum-last : (n m a b : ℕ) → floor_sum (suc n) m a b ≡ floor_sum n m a b + (a * n + b) / m
unfolding floor_sum
sum-last n m a b = refl

-- the first term, and the others as a sum that starts at a + b
pub sum_first : (n m a b : ℕ) → floor_sum (suc n) m a b ≡ b / m + floor_sum n m a (a + b)
unfolding floor_sum
sum_first zero m a b =
    let e : a * 0 + b ≡ b = omega arith in
    omega (arith, ap (λ (x : ℕ). x / m) e)
sum_first (suc n) m a b =
    let e : a * suc n + b ≡ a * n + (a + b) = omega arith in
    omega (arith, sum_first n m a b, ap (λ (x : ℕ). x / m) e)

-- m more in each term is 1 more in each quotient
pub sum-shift : (n m a b : ℕ) → 0 < m → floor_sum n m a (b + m) ≡ floor_sum n m a b + n
unfolding floor_sum
sum-shift zero m a b pos = refl
sum-shift (suc n) m a b pos =
    let e : a * n + (b + m) ≡ a * n + b + m = omega arith in
    omega (arith, sum-shift n m a b pos, ap (λ (x : ℕ). x / m) e, add-div_right (a * n + b) pos)

-- one term, and the sum, with a and b reduced modulo m
term-split : (m a b n : ℕ) → 0 < m → (a * n + b) / m ≡ (a / m * n + b / m) + (a % m * n + b % m) / m
term-split m a b n pos =
    let e : a * n + b ≡ (a / m * n + b / m) * m + (a % m * n + b % m) =
    omega (arith, ap (λ (x : ℕ). x * n) (div-add-mod' a m), div-add-mod' b m) in
    ap (λ (x : ℕ). x / m) e ∙ mul-add-div_right pos (a / m * n + b / m) (a % m * n + b % m)

pub sum-split : (n m a b : ℕ) → 0 < m → floor_sum n m a b ≡ (tri n * (a / m) + n * (b / m)) + floor_sum n m (a % m) (b % m)
unfolding floor_sum tri
sum-split zero m a b pos = omega arith
sum-split (suc n) m a b pos = omega (arith, sum-split n m a b pos, term-split m a b n pos)

-- terms below m have quotients 0
pub sum-small : (n k m a b : ℕ) → n ≤ k → a * k + b < m → floor_sum n m a b ≡ 0
sum-small zero k m a b h l = sum-none m a b
sum-small (suc n) k m a b h l =
    let below : a * n + b < m = omega (arith, mul-le-mul_left a (le_of_lt h)) in
    omega (arith, sum-last n m a b, sum-small n k m a b (le_of_lt h) l, div-eq_of_lt below)

-- ---- Reciprocity: where a * n + b is y times m and r more, the sum of n terms by m in steps of a is the sum of y
-- terms by a in steps of m. One more term on the left adds a to a * n + b. So either y stays and r grows by a, or y
-- grows by 1 and r falls by m - a; both sums grow by the old y.
module _ (m a b : ℕ) (pos : 0 < a) (less : a < m) (small : b < m) where
  stays : (n y r : ℕ) → a * suc n + b ≡ m * y + r → r < m → a ≤ r → floor_sum n m a b ≡ floor_sum y a m (r - a) → floor_sum (suc n) m a b ≡ floor_sum y a m r
  stays n y r e l h ih =
      let back : r - a + a ≡ r = omega arith in
      omega (arith, ih, sum-last n m a b, div_is m y (r - a) (a * n + b) (omega arith) (omega arith), sum-shift y a m (r - a) pos, ap (λ (x : ℕ). floor_sum y a m x) back)

  wraps : (n y r : ℕ) → a * suc n + b ≡ m * suc y + r → r < a → floor_sum n m a b ≡ floor_sum y a m (m + r - a) → floor_sum (suc n) m a b ≡ floor_sum (suc y) a m r
  wraps n y r e h ih =
      let back : m + r - a + a ≡ m + r = omega arith in
      omega (arith, ih, sum-last n m a b, div_is m y (m + r - a) (a * n + b) (omega arith) (omega arith), sum_first y a m r, div-eq_of_lt h, sum-shift y a m (m + r - a) pos, ap (λ (x : ℕ). floor_sum y a m x) back)

  pub sum-swap : (n y r : ℕ) → a * n + b ≡ m * y + r → r < m → floor_sum n m a b ≡ floor_sum y a m r
  sum-swap zero zero r e l = sum-none m a b ∙ sym (sum-none a m r)
  sum-swap zero (suc y) r e l = absurd (omega arith)
  sum-swap (suc n) zero r e l = stays n zero r e l (omega arith) (sum-swap n zero (r - a) (omega arith) (omega arith))
  sum-swap (suc n) (suc y) r e l = elim (dec_le a r) [
    | yes h ↦ stays n (suc y) r e l h (sum-swap n (suc y) (r - a) (omega arith) (omega arith))
    | no f ↦ wraps n y r e (omega arith) (sum-swap n y (m + r - a) (omega arith) (omega arith))
  ]

-- ---- the numbers on the way to a sum fit 64 bits
pub sum-le : (n k m a b : ℕ) → n ≤ k → floor_sum n m a b ≤ n * (a * k + b)
sum-le zero k m a b h = omega (arith, sum-none m a b)
sum-le (suc n) k m a b h =
    omega (arith, sum-le n k m a b (omega arith), sum-last n m a b, div-le_self (a * n + b) m, mul-le-mul_left a (le_of_lt h))

module _ (n m a b : ℕ) (fits : SumFits n m a b) where
  pub sum_fits : floor_sum n m a b < 2 ^ 64
  sum_fits = omega (arith, sum-le n n m a b (le_refl n), fits.total)

  pub square-fits : n * n < 2 ^ 64
  square-fits =
      let terms : n ≤ 2 ^ 32 - 1 = omega (arith, fits.terms) in
      omega (arith, mul-le-mul terms terms)

  pub whole-fits : tri n * (a / m) + n * (b / m) < 2 ^ 64
  whole-fits = omega (arith, sum_fits, sum-split n m a b fits.divisor)

  -- what is left once a and b are reduced modulo m
  pub top-le : a % m * n + b % m ≤ a * n + b
  top-le = omega (arith, mul-le-mul_right n (mod-le a m), mod-le b m)

  top-div : (a % m * n + b % m) / m ≤ n
  top-div =
      let h : a % m * n + b % m < suc n * m =
      omega (arith, mul-le-mul_right n (le_of_lt (mod-lt a fits.divisor)), mod-lt b fits.divisor) in
      omega (arith, (div-lt_iff_lt-mul fits.divisor).1 h)

  top-eq : a % m * n + b % m ≡ m * ((a % m * n + b % m) / m) + (a % m * n + b % m) % m
  top-eq = omega (arith, div-add-mod' (a % m * n + b % m) m)

  module _ (more : m ≤ a % m * n + b % m) where
    rem-pos : 0 < a % m
    rem-pos = ⊎_elim (λ z. absurd (omega (arith, mod-lt b fits.divisor, ap (λ (x : ℕ). x * n) z))) (λ h. h) (eq-zero-or-pos (a % m))

    pub next_fits : SumFits ((a % m * n + b % m) / m) (a % m) m ((a % m * n + b % m) % m)
    next_fits =
        let le : m * ((a % m * n + b % m) / m) + (a % m * n + b % m) % m ≤ a * n + b = omega (arith, top-eq, top-le) in
        let fewer : suc ((a % m * n + b % m) / m) ≤ suc n = omega (arith, top-div) in
        record {
          divisor = rem-pos;
          terms = omega (arith, top-div, fits.terms);
          total = omega (arith, mul-le-mul fewer le, fits.total);
        }

    pub sum_step : floor_sum n m a b ≡ (tri n * (a / m) + n * (b / m)) + floor_sum ((a % m * n + b % m) / m) (a % m) m ((a % m * n + b % m) % m)
    sum_step =
        omega (arith, sum-split n m a b fits.divisor, sum-swap m (a % m) (b % m) rem-pos (mod-lt a fits.divisor) (mod-lt b fits.divisor) n _ _ top-eq (mod-lt (a % m * n + b % m) fits.divisor))

  pub sum-ends : a % m * n + b % m < m → floor_sum n m a b ≡ tri n * (a / m) + n * (b / m)
  sum-ends less = omega (arith, sum-split n m a b fits.divisor, sum-small n n m (a % m) (b % m) (le_refl n) less)
