-- Laws of the first multiple whose rest lies in a window: Euclid's step on it, and each answer of the search. Assumes nothing.
use Prim.Native.Nat.{ℕ, suc, ◌+◌, ◌-◌, ◌*◌, ◌/◌, ◌%◌, ◌^◌, ◌≤◌, ◌<◌}
use mathlib.Core.Path.{◌≡◌, sym, ap, ◌∙◌, subst}
use mathlib.Core.Bool.{Bool, true}
use native.Mathlib.Nat.{mod-lt, div-add-mod', mul-le-mul, mul-le-mul_right, div-eq_of_lt-le}
use native.Mathlib.Numerals.{add-one}
use native.Mathlib.Omega.{arith}
use lib.Dec.{leb}
use borrow.Author.Tests.{leb-true, le-leb}
use Rattle.std.specs.Prelude.{Option, Some, None}
use Rattle.std.specs.Prelude.{Option, Some, None}
use Rattle.numbers.specs.FirstHit.{within, first_hit, Window}
use Rattle.numbers.proofs.Division.{lt_of_mul, rest-is, rest-mul}
use Rattle.numbers.proofs.Tests.{both_true}
use Rattle.numbers.proofs.SearchLaws.{First, first, missing, first_found, first-is, first_below}

-- a window's test, read as two inequalities
pub within-true : (lo hi y : ℕ) → within lo hi y ≡ true → (lo ≤ y) × (y ≤ hi)
within-true lo hi y e =
    let w = both_true (leb lo y) (leb y hi) e in
    (leb-true lo y w.0, leb-true y hi w.1)

pub true-within : (lo hi y : ℕ) → lo ≤ y → y ≤ hi → within lo hi y ≡ true
true-within lo hi y h l = rw (le-leb lo y h, le-leb y hi l)

-- t multiples of s lie in the window above y multiples of m
pub record Lands (s m lo hi t y : ℕ) : Type 0 where
  pub from : y * m + lo ≤ t * s
  pub upto : t * s ≤ y * m + hi

-- The answer is the least t that lands anywhere.
pub data Least (s m lo hi : ℕ) : Option ℕ → Type 0 where
  at : (t y : ℕ) → Lands s m lo hi t y → ((j z : ℕ) → Lands s m lo hi j z → t ≤ j) → Least s m lo hi (Some t)
  nowhere : ((j z : ℕ) → Lands s m lo hi j z → ⊥) → Least s m lo hi None

-- the test that the definition searches by
abbrev lies : ℕ → ℕ → ℕ → ℕ → ℕ → Bool
lies s m lo hi t = within lo hi (t * s % m)

-- ---- the least that lands anywhere is the first hit
module _ (s m lo hi : ℕ) (high : hi < m) where
  m-pos : 0 < m
  m-pos = omega arith

  pub lands : (t : ℕ) → lies s m lo hi t ≡ true → Lands s m lo hi t (t * s / m)
  lands t e =
      let w = within-true lo hi (t * s % m) e in
      record { from = omega (arith, div-add-mod' (t * s) m, w.0); upto = omega (arith, div-add-mod' (t * s) m, w.1) }

  pub landed : (t y : ℕ) → Lands s m lo hi t y → lies s m lo hi t ≡ true
  landed t y l =
      let r : t * s % m ≡ t * s - y * m =
      rest-is m y (t * s - y * m) (t * s) (omega (arith, l.from)) (omega (arith, l.from, l.upto)) in
      true-within lo hi (t * s % m) (omega (arith, l.from)) (omega (arith, l.upto, l.from))

  -- the rests repeat after m multiples
  again : (j : ℕ) → lies s m lo hi j ≡ true → lies s m lo hi (j % m) ≡ true
  again j e = rw (rest-mul m s j) e

  pub least_first : {r : Option ℕ} → Least s m lo hi r → r ≡ first_hit s m lo hi
  unfolding first_hit
  least_first (at t y l least) =
      first-is (lies s m lo hi) m 0
      (first t (omega arith)
      (omega (arith, mod-lt t m-pos, least (t % m) (t % m * s / m) (lands (t % m) (again t (landed t y l)))))
      (landed t y l)
      (λ j h e. least j (j * s / m) (lands j e)))
  least_first (nowhere none) = first-is (lies s m lo hi) m 0 (missing (λ j h l e. none j (j * s / m) (lands j e)))

  least-of : {r : Option ℕ} → First (lies s m lo hi) 0 m r → Least s m lo hi r
  least-of (first t h l p least) = at t (t * s / m) (lands t p) (λ j z g. least j (omega arith) (landed j z g))
  least-of (missing none) =
      nowhere (λ j z g. none (j % m) (omega arith) (omega (arith, mod-lt j m-pos)) (again j (landed j z g)))

  pub first-least : Least s m lo hi (first_hit s m lo hi)
  unfolding first_hit
  first-least = least-of (first_found (lies s m lo hi) m 0)

-- what is found is below the modulus
pub hit-below : (s m lo hi t : ℕ) → Some t ≡ first_hit s m lo hi → t < m
unfolding first_hit
hit-below s m lo hi t e =
    omega (arith, first_below (lies s m lo hi) 0 m (subst (λ (v : Option ℕ). First (lies s m lo hi) 0 m v) (sym e) (first_found (lies s m lo hi) m 0)))

-- ---- Euclid's step

-- the number of wraps found, turned into a multiple
unfoldable pub unwrap : ℕ → ℕ → ℕ → Option ℕ → Option ℕ
unwrap s m hi (Some y) = Some ((y * m + hi) / s)
unwrap s m hi None = None

module _ (s m lo hi t : ℕ) (pos : 0 < s) (some : lo ≤ hi) (before : t * s < lo) where
  -- the first multiple of s that reaches the window is in it
  pub least-reached : lo ≤ suc t * s → suc t * s ≤ hi → Least s m lo hi (Some (suc t))
  least-reached h l =
      at (suc t) 0 (record { from = omega arith; upto = omega arith }) (λ j z g. lt_of_mul t j s (omega (arith, g.from)))

  -- or passes it: then y multiples of m land below a multiple of s
  module _ (after : hi < suc t * s) where
    split : (y : ℕ) → y * m ≡ y * (m / s) * s + y * (m % s)
    split y = omega (arith, ap (λ (x : ℕ). y * x) (div-add-mod' m s))

    module _ (y z : ℕ) (l : Lands (m % s) s (suc t * s - hi) (suc t * s - lo) y z) where
      up : Lands s m lo hi (z + y * (m / s) + suc t) y
      up = record { from = omega (arith, split y, l.upto); upto = omega (arith, split y, l.from) }

      reached : (y * m + hi) / s ≡ z + y * (m / s) + suc t
      reached = div-eq_of_lt-le s (omega (arith, up.upto)) (omega (arith, split y, l.upto))

      first-up : (j x : ℕ) → y ≤ x → Lands s m lo hi j x → z + y * (m / s) + suc t ≤ j
      first-up j x h g =
          omega (arith, lt_of_mul (z + y * (m / s) + t) j s (omega (arith, split y, l.from, g.from, mul-le-mul_right m h)))

    down : (j y : ℕ) → Lands s m lo hi j y → Lands (m % s) s (suc t * s - hi) (suc t * s - lo) y (j - (y * (m / s) + suc t))
    down j y g =
        let h : y * (m / s) + t < j = lt_of_mul (y * (m / s) + t) j s (omega (arith, split y, g.from)) in
        let e : j ≡ j - (y * (m / s) + suc t) + (y * (m / s) + suc t) = omega arith in
        let f : j * s ≡ (j - (y * (m / s) + suc t)) * s + (y * (m / s) + suc t) * s = ap (λ (x : ℕ). x * s) e ∙ omega arith in
        record { from = omega (arith, split y, g.upto); upto = omega (arith, split y, g.from) }

    pub least-passed : {r : Option ℕ} → Least (m % s) s (suc t * s - hi) (suc t * s - lo) r → Least s m lo hi (unwrap s m hi r)
    unfolding unwrap
    least-passed (at y z l least) =
        rw (reached y z l) (at (z + y * (m / s) + suc t) y (up y z l) (λ j x g. first-up y z l j x (least x _ (down j x g)) g))
    least-passed (nowhere none) = nowhere (λ j x g. none x _ (down j x g))

-- ---- each answer is the one of the definition
module _ (s m lo hi : ℕ) (w : Window s m lo hi) where
  pub hit-zero : s ≡ 0 → None ≡ first_hit s m lo hi
  hit-zero e =
      least_first s m lo hi w.below (nowhere (λ j z l. omega (arith, l.from, ap (λ (x : ℕ). j * x) e, w.above)))

  module _ (pos : 0 < s) where
    -- the multiples of s on both sides of the window's start
    pub before : (lo - 1) / s * s < lo
    before = omega (arith, div-add-mod' (lo - 1) s, w.above)

    reach : lo ≤ ((lo - 1) / s + 1) * s
    reach = omega (arith, div-add-mod' (lo - 1) s, mod-lt (lo - 1) pos)

    pub hit-reached : ((lo - 1) / s + 1) * s ≤ hi → Some ((lo - 1) / s + 1) ≡ first_hit s m lo hi
    hit-reached h =
        rw add-one (least_first s m lo hi w.below (least-reached s m lo hi ((lo - 1) / s) pos w.some before (rw add-one at reach) (rw add-one at h)))

    module _ (x : ℕ) (is : x ≡ ((lo - 1) / s + 1) * s) (h : hi < x) where
      pub next-window : Window (m % s) s (x - hi) (x - lo)
      next-window = record {
        above = omega arith;
        some = omega (arith, w.some);
        below = omega (arith, before, w.some);
        rest = mod-lt m pos;
        small = omega (arith, w.rest, w.small);
      }

      passed : x ≡ suc ((lo - 1) / s) * s
      passed = is ∙ ap (λ (n : ℕ). n * s) (add-one ((lo - 1) / s))

      pub hit-passed : (r : Option ℕ) → r ≡ first_hit (m % s) s (x - hi) (x - lo) → unwrap s m hi r ≡ first_hit s m lo hi
      hit-passed r e =
          least_first s m lo hi w.below
          (least-passed s m lo hi ((lo - 1) / s) pos w.some before (omega (arith, passed)) {r = r}
          (subst (λ (n : ℕ). Least (m % s) s (n - hi) (n - lo) r) passed
          (subst (λ (v : Option ℕ). Least (m % s) s (x - hi) (x - lo) v) (sym e) (first-least (m % s) s (x - hi) (x - lo) next-window.below))))

      -- the multiple of m fits 64 bits
      pub multiple-fits : (y : ℕ) → Some y ≡ first_hit (m % s) s (x - hi) (x - lo) → y * m + hi < 2 ^ 64
      multiple-fits y e =
          let few : y ≤ 2 ^ 31 = omega (arith, hit-below (m % s) s (x - hi) (x - lo) y e, w.rest, w.small) in
          omega (arith, mul-le-mul few w.small, w.below, w.small)
