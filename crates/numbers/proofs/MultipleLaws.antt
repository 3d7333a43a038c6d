-- Multiples below a number: a multiple is one of those counted just where it is below. Assumes nothing.
use Prim.Native.Nat.{ℕ, ◌+◌, ◌-◌, ◌*◌, ◌/◌, ◌≤◌, ◌<◌}
use mathlib.Core.Path.{◌≡◌, refl}
use mathlib.Core.Bool.{Bool, true, false}
use native.Mathlib.Nat.{div-add-mod', mod-lt, mul-le-mul_right}
use native.Mathlib.Omega.{arith}
use lib.Dec.{ltb}
use borrow.Author.Tests.{ltb-true, ltb-false}
use Rattle.numbers.specs.Multiples.{multiples_below}
use Rattle.numbers.proofs.Division.{lt_of_mul}

module _ (s n d : ℕ) (some : 0 < s) where
  -- the quotient, rounded up
  up : ℕ
  up = (d + (s - 1)) / s

  by_cases : (P : ℕ → Type 0) → (up < n → P up) → (n ≤ up → P n) → P (multiples_below s n d)
  unfolding multiples_below up
  by_cases P f g = go (ltb up n) refl
    where
      go : (b : Bool) → ltb up n ≡ b → P (multiples_below s n d)
      go true e = rw e (f (ltb-true up n e))
      go false e = rw e (g (ltb-false up n e))

  pub multiples-le : multiples_below s n d ≤ n
  multiples-le = by_cases (λ m. m ≤ n) (λ h. omega arith) (λ h. omega arith)

  -- t·s is below d just where t is below the quotient
  up-below : (t : ℕ) → t < up → t * s < d
  unfolding up
  up-below t h = omega (arith, mul-le-mul_right s h, div-add-mod' (d + (s - 1)) s)

  below_up : (t : ℕ) → t * s < d → t < up
  unfolding up
  below_up t h =
      lt_of_mul t up s (omega (arith, div-add-mod' (d + (s - 1)) s, mod-lt (d + (s - 1)) some))

  -- of none there are none
  pub multiples-none : n ≡ 0 → multiples_below s n d ≡ 0
  multiples-none e = omega (arith, multiples-le)

  pub below-multiples : (t : ℕ) → t < multiples_below s n d → (t < n) × (t * s < d)
  below-multiples t =
      by_cases (λ m. t < m → (t < n) × (t * s < d)) (λ h l. (omega arith, up-below t l)) (λ h l. (l, up-below t (omega arith)))

  pub multiples-below : (t : ℕ) → t < n → t * s < d → t < multiples_below s n d
  multiples-below t h l = by_cases (λ m. t < m) (λ k. below_up t l) (λ k. h)
