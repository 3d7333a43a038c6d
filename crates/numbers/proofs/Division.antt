-- Laws of division with a free quotient and a free rest, and of products. Assumes nothing.
use Prim.Native.Nat.{ℕ, ◌+◌, ◌*◌, ◌/◌, ◌%◌, ◌≤◌, ◌<◌}
use mathlib.Core.Path.{◌≡◌, sym, ap, ◌∙◌}
use native.Mathlib.Nat.{
  div-eq_of_lt-le,
  mul-add-mod_self_left,
  mul-add-mod_self_right,
  mod-eq_of_lt,
  div-add-mod',
  mod-lt,
  lt_of_mul-lt-mul_right,
  mul-le-mul,
}
use native.Mathlib.Decide.{dec_lt}
use native.Mathlib.Omega.{arith}

-- x is y times m and less than m more: its quotient by m is y
pub div_is : (m y r x : ℕ) → x ≡ m * y + r → r < m → x / m ≡ y
div_is m y r x e l = div-eq_of_lt-le m (omega arith) (omega arith)

-- and its rest is what it is more
pub rest-is : (m y r x : ℕ) → x ≡ m * y + r → r < m → x % m ≡ r
rest-is m y r x e l = ap (λ (n : ℕ). n % m) e ∙ mul-add-mod_self_left m y r ∙ mod-eq_of_lt l

-- the rest of a product is that of the rest of one factor with the other
pub rest-mul : (m s t : ℕ) → t % m * s % m ≡ t * s % m
rest-mul m s t =
    let e : t * s ≡ t / m * s * m + t % m * s =
    omega (arith, ap (λ (x : ℕ). x * s) (div-add-mod' t m)) in
    sym (ap (λ (x : ℕ). x % m) e ∙ mul-add-mod_self_right (t / m * s) m (t % m * s))

-- two numbers stand as their products do
pub lt_of_mul : (a b c : ℕ) → a * c < b * c → a < b
lt_of_mul a b c h = lt_of_mul-lt-mul_right c h

-- a product is no larger than that of bounds of its factors
pub product_le : (m n : ℕ) {a b : ℕ} → a ≤ m → b ≤ n → a * b ≤ m * n
product_le m n h l = mul-le-mul h l

-- a quotient is 1 or more where the dividend is no smaller
pub quotient-pos : (x y : ℕ) → 0 < y → y ≤ x → 0 < x / y
quotient-pos x y h l = elim (dec_lt 0 (x / y)) [
  | yes g ↦ g
  | no g ↦
      let z : x / y ≡ 0 = omega arith in
      absurd (omega (arith, div-add-mod' x y, ap (λ (u : ℕ). u * y) z, mod-lt x h))
]
