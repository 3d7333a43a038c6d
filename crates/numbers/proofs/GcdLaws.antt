-- Laws of the greatest common divisor: it divides both numbers, and every common divisor divides it. Assumes nothing.
use Prim.Native.Nat.{ℕ, zero, suc, ◌%◌, ◌≤◌, ◌<◌, ◌∣◌}
use mathlib.Core.Path.{◌≡◌, refl}
use native.Mathlib.Nat.{
  dvd_refl,
  dvd-zero,
  dvd_antisymm,
  dvd-mod_iff,
  pos_of_dvd_of_pos,
  mod-lt,
  zero-lt-suc,
  le_refl,
  not-suc-le-zero,
}
use native.Mathlib.Omega.{arith}
use Rattle.numbers.specs.Gcd.{gcd_in, gcd}

divides : (n a b : ℕ) → b ≤ n → (gcd_in n a b ∣ a) × (gcd_in n a b ∣ b)
unfolding gcd_in
divides zero a zero h = (dvd_refl a, dvd-zero a)
divides zero a (suc b) h = absurd (not-suc-le-zero h)
divides (suc n) a zero h = (dvd_refl a, dvd-zero a)
divides (suc n) a (suc b) h =
    let g = divides n (suc b) (a % suc b) (omega (arith, mod-lt a (zero-lt-suc b))) in
    ((dvd-mod_iff (gcd_in n (suc b) (a % suc b)) g.0).0 g.1, g.0)

greatest : (n a b e : ℕ) → b ≤ n → e ∣ a → e ∣ b → e ∣ gcd_in n a b
unfolding gcd_in
greatest zero a b e h p q = p
greatest (suc n) a zero e h p q = p
greatest (suc n) a (suc b) e h p q =
    greatest n (suc b) (a % suc b) e (omega (arith, mod-lt a (zero-lt-suc b))) q
    ((dvd-mod_iff e q).1 p)

module _ (a b : ℕ) where
  pub gcd-left : gcd a b ∣ a
  unfolding gcd
  gcd-left = (divides b a b (le_refl b)).0

  pub gcd-right : gcd a b ∣ b
  unfolding gcd
  gcd-right = (divides b a b (le_refl b)).1

  pub gcd-greatest : (e : ℕ) → e ∣ a → e ∣ b → e ∣ gcd a b
  unfolding gcd
  gcd-greatest e = greatest b a b e (le_refl b)

  pub gcd-pos-left : 0 < a → 0 < gcd a b
  gcd-pos-left = pos_of_dvd_of_pos gcd-left

pub gcd-zero : (a : ℕ) → gcd a 0 ≡ a
unfolding gcd gcd_in
gcd-zero a = refl

-- Euclid's step: both sides have the same divisors
pub gcd-step : (a b : ℕ) → gcd b (a % b) ≡ gcd a b
gcd-step a b =
    let d = gcd b (a % b) in
    dvd_antisymm
    (gcd-greatest a b d ((dvd-mod_iff d (gcd-left b (a % b))).0 (gcd-right b (a % b))) (gcd-left b (a % b)))
    (gcd-greatest b (a % b) (gcd a b) (gcd-right a b) ((dvd-mod_iff (gcd a b) (gcd-right a b)).1 (gcd-left a b)))
