-- How often a recursion in the manner of Euclid calls itself: at most twice for each doubling of its modulus. Assumes nothing.
use Prim.Native.Nat.{ℕ, zero, suc, ◌+◌, ◌*◌, ◌/◌, ◌%◌, ◌^◌, ◌≤◌, ◌<◌}
use mathlib.Core.Path.{◌≡◌, refl, ap}
use mathlib.Core.Logic.{⊎_elim}
use native.Mathlib.Nat.{mod-lt, div-add-mod', zero-lt-suc, le_refl, mul-le-mul_right, eq-zero-or-pos}
use native.Mathlib.Omega.{arith}

-- how often Euclid's algorithm on m and s divides, at most f times
unfoldable pub rounds : ℕ → ℕ → ℕ → ℕ
rounds zero s m = 0
rounds (suc f) zero m = 0
rounds (suc f) (suc s) m = suc (rounds f (m % suc s) (suc s))

-- s rounds are enough, since s falls
unfoldable pub depth : ℕ → ℕ → ℕ
depth s m = rounds s s m

stable : (f g s m : ℕ) → s ≤ f → s ≤ g → rounds f s m ≡ rounds g s m
unfolding rounds
stable zero zero s m h l = refl
stable zero (suc g) zero m h l = refl
stable zero (suc g) (suc s) m h l = absurd (omega arith)
stable (suc f) zero zero m h l = refl
stable (suc f) zero (suc s) m h l = absurd (omega arith)
stable (suc f) (suc g) zero m h l = refl
stable (suc f) (suc g) (suc s) m h l =
    let r = mod-lt m (zero-lt-suc s) in
    ap suc (stable f g (m % suc s) (suc s) (omega arith) (omega arith))

-- each call is one round less
pub depth-next : (s m : ℕ) → 0 < s → depth s m ≡ suc (depth (m % s) s)
unfolding depth rounds
depth-next zero m h = absurd (omega arith)
depth-next (suc s) m h =
    ap suc (stable s (m % suc s) (m % suc s) (suc s) (omega (arith, mod-lt m (zero-lt-suc s))) (le_refl (m % suc s)))

pub depth_falls : (s m : ℕ) → 0 < s → depth (m % s) s < depth s m
depth_falls s m h = omega (arith, depth-next s m h)

-- two rounds halve the modulus
halves : (s m : ℕ) → 0 < s → s < m → 2 * (m % s) < m
halves s m pos less =
    ⊎_elim
    (λ e. absurd (omega (arith, div-add-mod' m s, mod-lt m pos, ap (λ (x : ℕ). x * s) e)))
    (λ one. omega (arith, div-add-mod' m s, mod-lt m pos, mul-le-mul_right s one))
    (eq-zero-or-pos (m / s))

rounds-low : (n f s m : ℕ) → s < m → m ≤ 2 ^ n → rounds f s m ≤ 2 * n
unfolding rounds
rounds-low n zero s m less low = omega arith
rounds-low n (suc f) zero m less low = omega arith
rounds-low zero (suc f) (suc s) m less low = absurd (omega arith)
rounds-low (suc n) (suc zero) (suc s) m less low = omega arith
rounds-low (suc n) (suc (suc f)) (suc s) m less low = go (λ u v h l. rounds-low n f u v h l) (m % suc s) refl
  where
    go : ((u v : ℕ) → u < v → v ≤ 2 ^ n → rounds f u v ≤ 2 * n) → (r : ℕ) → m % suc s ≡ r → suc (rounds (suc f) (m % suc s) (suc s)) ≤ 2 * suc n
    go ih zero e = rw e (omega arith)
    go ih (suc r) e = rw e (omega (arith, ih (suc s % suc r) (suc r) (mod-lt (suc s) (zero-lt-suc r)) (omega (arith, halves (suc s) m (zero-lt-suc s) less))))

pub depth_low : (n s m : ℕ) → s < m → m ≤ 2 ^ n → depth s m ≤ 2 * n
unfolding depth
depth_low n s m less low = rounds-low n s s m less low

-- one round more where the modulus is not the larger of the two
pub depth-any : (n s m : ℕ) → s ≤ 2 ^ n → depth s m ≤ 2 * n + 1
unfolding depth rounds
depth-any n zero m low = omega arith
depth-any n (suc s) m low = omega (arith, rounds-low n s (m % suc s) (suc s) (mod-lt m (zero-lt-suc s)) low)

-- a modulus of at most 2^26: 53 calls or fewer
pub depth-short : (s m : ℕ) → s < m → m ≤ 67108864 → depth s m ≤ 52
depth-short s m less low = depth_low 26 s m less low
