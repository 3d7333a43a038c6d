-- Euclid's way to the two steps. A state has two multiples of S, one with a rest u by M, one that is v short of a multiple of
-- M. Each turn takes the smaller of u and v from the larger. It ends where both are below k, or where they are equal.
use mathlib.Core.Path.{◌≡◌, ap, ◌∙◌}
use mathlib.Core.Logic.{◌⊎◌, inl, inr, ⊎_elim}
use Prim.Native.Nat.{ℕ, zero, suc, ◌+◌, ◌-◌, ◌*◌, ◌/◌, ◌%◌, ◌≤◌, ◌<◌}
use native.Mathlib.Nat.{div-add-mod', mod-lt, mul-mod_left, mod-eq_of_lt, le-mul_of_pos_right}
use native.Mathlib.Omega.{arith}
use Rattle.numbers.proofs.Division.{rest-is}
use Rattle.model.proofs.Rests.{le-or-lt, sum-mod, Rests, rests, diff}

-- a S = c M + u, b S + v = e M; no smaller multiple has a rest nearer to 0 or M
pub record Closest (M k S a b c e u v : ℕ) : Type 0 where
  pub at_a : a * S ≡ c * M + u
  pub at_b : b * S + v ≡ e * M
  pub det-M : a * v + b * u ≡ M
  pub det-S : e * u + c * v ≡ S
  pub a-pos : 0 < a
  pub u-pos : 0 < u
  pub v-pos : 0 < v
  pub u-low : u ≤ M
  pub v_low : v ≤ M
  pub near : (m : ℕ) → 0 < m → m < a + b → (u ≤ m * S % M) × (m * S % M + v ≤ M)
  pub first-a : (m : ℕ) → 0 < m → m < a → k ≤ m * S % M
  pub first-b : (m : ℕ) → 0 < m → m < b → m * S % M + k ≤ M

module _ (M k S : ℕ) (M-pos : 0 < M) where
  R : Rests M (λ m. m * S % M)
  R = rests M S M-pos

  low : (m : ℕ) → m * S % M < M
  low m = mod-lt (m * S) M-pos

  -- the rests of the two multiples
  pub rest-a : {a b c e u v : ℕ} → Closest M k S a b c e u v → u < M → a * S % M ≡ u
  rest-a {a} {b} {c} {e} {u} g h = rest-is M c u (a * S) (omega (arith, g.at_a)) h

  pub rest-b : {a b c e u v : ℕ} → Closest M k S a b c e u v → v < M → b * S % M + v ≡ M
  rest-b {a} {b} {c} {e} {u} {v} g h =
      let z : (b * S + v) % M ≡ 0 = ap (λ (n : ℕ). n % M) g.at_b ∙ mul-mod_left e M in
      ⊎_elim (λ s. absurd (omega (arith, g.v-pos, mod-eq_of_lt h))) (λ s. omega (arith, mod-eq_of_lt h)) (sum-mod M (b * S) v M-pos)

  -- one turn: the larger of the two falls by the smaller
  pub turn-b : (a b c e u v w : ℕ) → v ≡ w + u → 0 < w → k ≤ v → Closest M k S a b c e u v → Closest M k S a (a + b) c (c + e) u w
  turn-b a b c e u v w p w-pos big g =
      record {
        at_a = g.at_a;
        at_b = omega (arith, g.at_a, g.at_b);
        det-M = omega (arith, g.det-M, ap (λ (z : ℕ). a * z) p);
        det-S = omega (arith, g.det-S, ap (λ (z : ℕ). c * z) p);
        a-pos = g.a-pos;
        u-pos = g.u-pos;
        v-pos = w-pos;
        u-low = g.u-low;
        v_low = omega (arith, g.v_low);
        near = λ m pos h. near m pos h (le-or-lt (a + b) m) (le-or-lt 1 (m - a));
        first-a = g.first-a;
        first-b = λ m pos h. omega (arith, g.near m pos h);
      }
    where
      near : (m : ℕ) → 0 < m → m < a + (a + b) → (a + b ≤ m) ⊎ (m < a + b) → (1 ≤ m - a) ⊎ (m - a < 1)
          → (u ≤ m * S % M) × (m * S % M + w ≤ M)
      near m pos h (inr l) s = omega (arith, g.near m pos l)
      near m pos h (inl l) (inr s) =
          let e : m ≡ a = omega arith in
          omega (arith, ap (λ (z : ℕ). z * S % M) e, rest-a g (omega (arith, g.v_low)), g.v_low)
      near m pos h (inl l) (inl s) =
          let n : (u ≤ (m - a) * S % M) × ((m - a) * S % M + v ≤ M) = g.near (m - a) s (omega arith) in
          let r : a * S % M ≡ u = rest-a g (omega (arith, g.v_low)) in
          ⊎_elim (λ d. omega arith) (λ d. omega arith) (diff R a m (omega arith))

  pub turn-a : (a b c e u v w : ℕ) → u ≡ w + v → 0 < w → k ≤ u → Closest M k S a b c e u v → Closest M k S (a + b) b (c + e) e w v
  turn-a a b c e u v w p w-pos big g =
      record {
        at_a = omega (arith, g.at_a, g.at_b);
        at_b = g.at_b;
        det-M = omega (arith, g.det-M, ap (λ (z : ℕ). b * z) p);
        det-S = omega (arith, g.det-S, ap (λ (z : ℕ). e * z) p);
        a-pos = omega (arith, g.a-pos);
        u-pos = w-pos;
        v-pos = g.v-pos;
        u-low = omega (arith, g.u-low);
        v_low = g.v_low;
        near = λ m pos h. near m pos h (le-or-lt (a + b) m);
        first-a = λ m pos h. omega (arith, g.near m pos h);
        first-b = g.first-b;
      }
    where
      near : (m : ℕ) → 0 < m → m < a + b + b → (a + b ≤ m) ⊎ (m < a + b) → (w ≤ m * S % M) × (m * S % M + v ≤ M)
      near m pos h (inr l) = omega (arith, g.near m pos l)
      near m pos h (inl l) =
          let n : (u ≤ (m - b) * S % M) × ((m - b) * S % M + v ≤ M) = g.near (m - b) (omega (arith, g.a-pos)) (omega arith) in
          let r : b * S % M + v ≡ M = rest-b g (omega (arith, g.u-low)) in
          ⊎_elim (λ d. omega (arith, low m)) (λ d. omega arith) (diff R b m (omega arith))

-- where the turns end
pub data End (M k S : ℕ) : Type 0 where
  two : {a b c e u v : ℕ} → Closest M k S a b c e u v → u < k → v < k → End M k S
  one : {a b c e u v : ℕ} → Closest M k S a b c e u v → u ≡ v → k ≤ u → End M k S

module _ (M k S : ℕ) (M-pos : 0 < M) where
  pub start : 0 < S → Closest M k S 1 0 ((S - 1) / M) 1 ((S - 1) % M + 1) M
  start S_pos =
      record {
        at_a = omega (arith, div-add-mod' (S - 1) M);
        at_b = omega arith;
        det-M = omega arith;
        det-S = omega (arith, div-add-mod' (S - 1) M);
        a-pos = omega arith;
        u-pos = omega arith;
        v-pos = M-pos;
        u-low = omega (arith, mod-lt (S - 1) M-pos);
        v_low = omega arith;
        near = λ m pos h. omega arith;
        first-a = λ m pos h. omega arith;
        first-b = λ m pos h. omega arith;
      }

  finish : (n a b c e u v : ℕ) → u + v ≤ n → Closest M k S a b c e u v → End M k S
  finish zero a b c e u v h g = absurd (omega (arith, g.u-pos))
  finish (suc n) a b c e u v h g = go (finish n) (le-or-lt k u) (le-or-lt k v) (le-or-lt u v) (le-or-lt v u)
    where
      fall-b : ((a b c e u v : ℕ) → u + v ≤ n → Closest M k S a b c e u v → End M k S) → u < v → k ≤ v → End M k S
      fall-b ih l big =
          ih a (a + b) c (c + e) u (v - u) (omega (arith, g.u-pos))
          (turn-b M k S M-pos a b c e u v (v - u) (omega arith) (omega arith) big g)

      fall-a : ((a b c e u v : ℕ) → u + v ≤ n → Closest M k S a b c e u v → End M k S) → v < u → k ≤ u → End M k S
      fall-a ih l big =
          ih (a + b) b (c + e) e (u - v) v (omega (arith, g.v-pos))
          (turn-a M k S M-pos a b c e u v (u - v) (omega arith) (omega arith) big g)

      go : ((a b c e u v : ℕ) → u + v ≤ n → Closest M k S a b c e u v → End M k S) → (k ≤ u) ⊎ (u < k) → (k ≤ v) ⊎ (v < k)
          → (u ≤ v) ⊎ (v < u) → (v ≤ u) ⊎ (u < v) → End M k S
      go ih (inr f) (inr f') o o' = two g f f'
      go ih (inl f) (inl f') (inl o) (inl o') = one g (omega arith) f
      go ih (inl f) (inl f') (inl o) (inr o') = fall-b ih o' f'
      go ih (inl f) (inl f') (inr o) o' = fall-a ih o f
      go ih (inl f) (inr f') o o' = fall-a ih (omega arith) f
      go ih (inr f) (inl f') o o' = fall-b ih (omega arith) f'

  pub ended : 0 < S → End M k S
  ended S_pos = finish ((S - 1) % M + 1 + M) 1 0 ((S - 1) / M) 1 ((S - 1) % M + 1) M (omega arith) (start S_pos)

-- neither multiple is past M times S
module _ {M k S a b c e u v : ℕ} (g : Closest M k S a b c e u v) where
  pub count-a : a ≤ M
  count-a = omega (arith, g.det-M, le-mul_of_pos_right a g.v-pos)

  pub count-b : b ≤ M
  count-b = omega (arith, g.det-M, le-mul_of_pos_right b g.u-pos)
