-- The search for the two steps: a turn's numbers fit, it keeps the two multiples closest, and where it ends they are the steps.
use Prim.Native.Nat.{ℕ, zero, suc, ◌+◌, ◌*◌, ◌≤◌, ◌<◌}
use mathlib.Core.Path.{◌≡◌, refl, sym, subst₂, subst₃}
use mathlib.Core.Logic.{◌⊎◌, ⊎_elim}
use native.Mathlib.Nat.{le-mul_of_pos_right, mul-le-mul_left}
use native.Mathlib.Omega.{arith}
use Rattle.numbers.proofs.Division.{product_le}
use Rattle.model.specs.Steps.{processor_step, return_step}
use Rattle.model.proofs.Rests.{Course}
use Rattle.model.proofs.Turns.{Closest, turn-a, turn-b, count-a, count-b}
use Rattle.model.proofs.StepEnds.{end-processor, end-return, unequal}
use Rattle.section.specs.declared.steps.Side.{Side}
use Rattle.section.specs.Falls.{Searched, MayFall, Fallen}

-- ---- one fall

bound : (j n l c d b : ℕ) → 0 < n → j * n ≤ l → c * n + d * l ≤ b → c + j * d ≤ b
bound j n l c d b pos h s =
    omega (arith, le-mul_of_pos_right c pos, mul-le-mul_left d h, le-mul_of_pos_right (j * d) pos)

module _ (x y : Side) (k j : ℕ) (f : MayFall x y k) (h : j * y.left < x.left) where
  pub fall-count : x.count + j * y.count ≤ 67108864
  fall-count = bound j y.left x.left x.count y.count 67108864 f.some (omega arith) f.count

  pub fall-courses : x.courses + j * y.courses ≤ 2147483647
  fall-courses =
      bound j y.left x.left x.courses y.courses 2147483647 f.some (omega arith) (omega (arith, f.courses))

-- ---- several turns at once
module _ (M k S : ℕ) (M-pos : 0 < M) where
  turns-a : (j a b c e u v w : ℕ) → u ≡ w + j * v → 0 < w → k ≤ w + v → Closest M k S a b c e u v
      → Closest M k S (a + j * b) b (c + j * e) e w v
  turns-a zero a b c e u v w p w-pos big g =
      subst₃ (λ (a' c' u' : ℕ). Closest M k S a' b c' e u' v) (omega arith) (omega arith) (omega arith) g
  turns-a (suc j) a b c e u v w p w-pos big g =
      subst₂ (λ (a' c' : ℕ). Closest M k S a' b c' e w v) (omega arith) (omega arith)
      (turns-a j (a + b) b (c + e) e (w + j * v) v w refl w-pos big
      (turn-a M k S M-pos a b c e u v (w + j * v) (omega arith) (omega arith) (omega arith) g))

  turns-b : (j a b c e u v w : ℕ) → v ≡ w + j * u → 0 < w → k ≤ w + u → Closest M k S a b c e u v
      → Closest M k S a (b + j * a) c (e + j * c) u w
  turns-b zero a b c e u v w p w-pos big g =
      subst₃ (λ (b' e' v' : ℕ). Closest M k S a b' c e' u v') (omega arith) (omega arith) (omega arith) g
  turns-b (suc j) a b c e u v w p w-pos big g =
      subst₂ (λ (b' e' : ℕ). Closest M k S a b' c e' u w) (omega arith) (omega arith)
      (turns-b j a (a + b) c (c + e) u (w + j * u) w refl w-pos big
      (turn-b M k S M-pos a b c e u v (w + j * u) (omega arith) (omega arith) (omega arith) g))

-- ---- the search

-- a is above its courses, b below, and no smaller multiple comes nearer
abbrev pub Sides : ℕ → ℕ → ℕ → Side → Side → Type 0
Sides s m k a b = Closest m k s a.count b.count a.courses b.courses a.left b.left

module _ {s m k : ℕ} (h : Searched s m k) {a b : Side} (g : Sides s m k a b) where
  course : Course m k s
  course = record { block-pos = h.block-pos; block-le = h.block-le; spread-pos = h.spread-pos }

  m-pos : 0 < m
  m-pos = omega arith

  -- both multiples fit
  pub cells-a : a.count * s ≤ 67108864 * 2147483648
  cells-a = product_le 67108864 2147483648 (omega (arith, count-a g)) (omega arith)

  pub cells-b : b.count * s ≤ 67108864 * 2147483648
  cells-b = product_le 67108864 2147483648 (omega (arith, count-b g)) (omega arith)

  -- one of them falls while one is k or more away
  pub may-a : b.left ≤ a.left → (k ≤ a.left) ⊎ (k ≤ b.left) → MayFall a b k
  may-a l far =
      record {
        some = g.v-pos;
        less = omega (arith, unequal course g h.divisor far);
        large = ⊎_elim (λ f. f) (λ f. omega arith) far;
        low = omega (arith, g.u-low);
        count = omega (arith, g.det-M);
        courses = omega (arith, g.det-S);
      }

  pub may-b : a.left < b.left → (k ≤ a.left) ⊎ (k ≤ b.left) → MayFall b a k
  may-b l far =
      record {
        some = g.u-pos;
        less = l;
        large = ⊎_elim (λ f. omega arith) (λ f. f) far;
        low = omega (arith, g.v_low);
        count = omega (arith, g.det-M);
        courses = omega (arith, g.det-S);
      }

  pub keep-a : (r : Side) → Fallen a b k r → Sides s m k r b
  keep-a r f =
      subst₂ (λ (n c : ℕ). Closest m k s n b.count c b.courses r.left b.left) (sym f.count) (sym f.courses)
      (turns-a m k s m-pos f.times _ _ _ _ _ _ r.left f.left f.some f.last g)

  pub keep-b : (r : Side) → Fallen b a k r → Sides s m k a r
  keep-b r f =
      subst₂ (λ (n c : ℕ). Closest m k s a.count n a.courses c a.left r.left) (sym f.count) (sym f.courses)
      (turns-b m k s m-pos f.times _ _ _ _ _ _ r.left f.left f.some f.last g)

  -- where both are below k they are the steps
  module _ (fa : a.left < k) (fb : b.left < k) where
    pub processor-is : record { cells = a.count * s; courses = a.courses; column = a.left } ≡ processor_step m k s
    processor-is = end-processor course g fa fb

    pub return-is : record { cells = b.count * s; courses = b.courses; column = b.left } ≡ return_step m k s
    return-is = end-return course g fa fb
