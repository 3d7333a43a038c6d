-- Sums over the numbers below n. Assumes nothing.
use Prim.Native.Nat.{ℕ, zero, suc, ◌+◌, ◌≤◌, ◌<◌}
use mathlib.Core.Path.{◌≡◌, refl, ap}
use mathlib.Core.Logic.{◌⊎◌, inl, inr}
use native.Mathlib.Nat.{eq-or-lt_of_le, le_refl, le_of_suc-le-suc, not-suc-le-zero}
use native.Mathlib.Decide.{dec_lt, le_ind}
use native.Mathlib.Omega.{arith}
use Rattle.numbers.specs.Search.{sum_below}

pub sum-none : (f : ℕ → ℕ) → sum_below 0 f ≡ 0
unfolding sum_below
sum-none f = refl

pub sum-next : (n : ℕ) (f : ℕ → ℕ) → sum_below (suc n) f ≡ sum_below n f + f n
unfolding sum_below
sum-next n f = refl

pub sum_same : (n : ℕ) (f g : ℕ → ℕ) → ((i : ℕ) → i < n → f i ≡ g i) → sum_below n f ≡ sum_below n g
unfolding sum_below
sum_same zero f g h = refl
sum_same (suc n) f g h = omega (arith, sum_same n f g (λ i l. h i (omega arith)), h n (omega arith))

pub sum-add : (n : ℕ) (f g : ℕ → ℕ) → sum_below n (λ i. f i + g i) ≡ sum_below n f + sum_below n g
unfolding sum_below
sum-add zero f g = refl
sum-add (suc n) f g = omega (arith, sum-add n f g)

pub sum-zero : (n : ℕ) → sum_below n (λ i. 0) ≡ 0
unfolding sum_below
sum-zero zero = refl
sum-zero (suc n) = omega (arith, sum-zero n)

-- what stands at one number only
pub sum_one : (n a : ℕ) (f : ℕ → ℕ) → a < n → ((i : ℕ) → (i ≡ a → ⊥) → f i ≡ 0) → sum_below n f ≡ f a
unfolding sum_below
sum_one zero a f h z = absurd (not-suc-le-zero h)
sum_one (suc n) a f h z = go (eq-or-lt_of_le (le_of_suc-le-suc h)) (λ l. sum_one n a f l z)
  where
    go : (a ≡ n) ⊎ (a < n) → (a < n → sum_below n f ≡ f a) → sum_below n f + f n ≡ f a
    go (inl e) ih = omega (arith, ap f e, sum_same n f (λ i. 0) (λ i l. z i (λ p. omega arith)), sum-zero n)
    go (inr l) ih = omega (arith, ih l, z n (λ p. omega arith))

pub sum_mono : (f : ℕ → ℕ) (m n : ℕ) → m ≤ n → sum_below m f ≤ sum_below n f
sum_mono f m n h =
    le_ind (λ (k : ℕ). sum_below m f ≤ sum_below k f) (le_refl (sum_below m f)) (λ k l e. omega (arith, e, sum-next k f)) n h

-- the part of a sum in which y lies
pub record Part (f : ℕ → ℕ) (n y q : ℕ) : Type 0 where
  pub number : q < n
  pub from : sum_below q f ≤ y
  pub below : y < sum_below (suc q) f

pub part_of : (f : ℕ → ℕ) (n y : ℕ) → y < sum_below n f → (q : ℕ) × Part f n y q
part_of f zero y h = absurd (omega (arith, sum-none f))
part_of f (suc n) y h = go (part_of f n y) (dec_lt y (sum_below n f))
  where
    go : (y < sum_below n f → (q : ℕ) × Part f n y q) → Dec (y < sum_below n f) → (q : ℕ) × Part f (suc n) y q
    go ih (yes l) =
        let r = ih l in
        (r.0, record { number = omega (arith, r.1.number); from = r.1.from; below = r.1.below })
    go ih (no g) = (n, record { number = omega arith; from = omega arith; below = h })
