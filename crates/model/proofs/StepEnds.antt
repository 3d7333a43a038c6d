-- What the end of the turns gives: the two steps, or the one step and the divisor.
use Prim.Native.Nat.{ℕ, ◌+◌, ◌-◌, ◌*◌, ◌/◌, ◌%◌, ◌≤◌, ◌<◌, ◌∣◌}
use mathlib.Core.Path.{◌≡◌, sym, ap, subst}
use mathlib.Core.Logic.{◌⊎◌, inl, inr, ⊎_elim}
use native.Mathlib.Nat.{
  le_antisymm,
  le_of_dvd,
  div-add-mod',
  div-eq_of_eq-mul_left,
  dvd_antisymm,
  dvd-mul_left,
  dvd-add_iff_right,
  dvd-mul_left_of_dvd,
  eq_of_mul-eq-mul_right,
}
use native.Mathlib.Omega.{arith}
use Rattle.numbers.specs.Gcd.{gcd}
use Rattle.numbers.proofs.GcdLaws.{gcd-left, gcd-right, gcd-greatest}
use Rattle.model.specs.Steps.{processor_index, return_index, processor_step, return_step, one_step}
use Rattle.model.proofs.Rests.{le-or-lt, Course, rests, Least, Forward, Backward, Fits}
use Rattle.model.proofs.StepSearch.{processor-found, return-found}
use Rattle.model.proofs.Turns.{Closest, rest-a, rest-b}

least-unique : {H : ℕ → Type 0} {rest : ℕ → ℕ} {i j : ℕ} → Least H rest i → Least H rest j → i ≡ j
least-unique I J = le_antisymm (I.least _ J.at) (J.least _ I.at)

module _ {M k S a b c e u v : ℕ} (h : Course M k S) (g : Closest M k S a b c e u v) where
  M-pos : 0 < M
  M-pos = omega arith

  some : (m : ℕ) → 0 < m * S % M → 0 < m
  some m l =
      ⊎_elim (λ s. s)
      (λ s. let z : m ≡ 0 = omega arith in absurd (omega (arith, ap (λ (n : ℕ). n * S % M) z, (rests M S M-pos).none)))
      (le-or-lt 1 m)

  divides : gcd S M ∣ u
  divides =
      (dvd-add_iff_right (gcd S M) (dvd-mul_left_of_dvd (gcd S M) (gcd-right S M) c)).1
      (subst (λ (n : ℕ). gcd S M ∣ n) g.at_a (dvd-mul_left_of_dvd (gcd S M) (gcd-left S M) a))

  -- where both rests are below k, the two multiples are the least
  module _ (fu : u < k) (fv : v < k) where
    ra : a * S % M ≡ u
    ra = rest-a M k S M-pos g (omega arith)

    rb : b * S % M + v ≡ M
    rb = rest-b M k S M-pos g (omega arith)

    least-a : Least (Forward k) (λ m. m * S % M) a
    least-a =
        record {
          pos = g.a-pos;
          at = omega (arith, ra, g.u-pos);
          least = λ m f. ⊎_elim (λ l. l) (λ l. absurd (omega (arith, f, g.first-a m (some m f.some) l))) (le-or-lt a m);
        }

    least-b : Least (Backward M k) (λ m. m * S % M) b
    least-b =
        record {
          pos = some b (omega (arith, rb));
          at = omega (arith, rb, g.u-pos);
          least = λ m f. ⊎_elim (λ l. l) (λ l. absurd (omega (arith, f, g.first-b m (some m (omega (arith, f))) l))) (le-or-lt b m);
        }

    pub processor-least : Least (Forward k) (λ m. m * S % M) (processor_index M k S)
    processor-least = processor-found h a least-a.at

    pub return-least : Least (Backward M k) (λ m. m * S % M) (return_index M k S)
    return-least = return-found h b least-b.at

    pub end-processor : record { cells = a * S; courses = c; column = u } ≡ processor_step M k S
    unfolding processor_step
    end-processor =
        let q : a * S / M ≡ c = eq_of_mul-eq-mul_right M M-pos (a * S / M) c (omega (arith, ra, div-add-mod' (a * S) M, g.at_a)) in
        rw (least-unique processor-least least-a, q, ra)

    pub end-return : record { cells = b * S; courses = e; column = v } ≡ return_step M k S
    unfolding return_step
    end-return =
        let q : b * S / M + 1 ≡ e =
        eq_of_mul-eq-mul_right M M-pos (b * S / M + 1) e (omega (arith, rb, div-add-mod' (b * S) M, g.at_b)) in
        let y : M - b * S % M ≡ v = omega (arith, rb) in
        rw (least-unique return-least least-b, q, y)

    pub divisor-low : gcd S M < k
    divisor-low = omega (arith, le_of_dvd g.u-pos divides)

  -- where they end equal, that is the divisor
  module _ (same : u ≡ v) (big : k ≤ u) where
    u_m : (a + b) * u ≡ M
    u_m = omega (arith, g.det-M, ap (λ (z : ℕ). a * z) same)

    u_s : (c + e) * u ≡ S
    u_s = omega (arith, g.det-S, ap (λ (z : ℕ). c * z) same)

    pub divisor : gcd S M ≡ u
    divisor =
        dvd_antisymm divides
        (gcd-greatest S M u (subst (λ (n : ℕ). u ∣ n) u_s (dvd-mul_left u (c + e))) (subst (λ (n : ℕ). u ∣ n) u_m (dvd-mul_left u (a + b))))

    pub end-one : record { cells = (a + b) * S; courses = c + e; column = 0 } ≡ one_step M S
    unfolding one_step
    end-one =
        let x : M * S / u ≡ (a + b) * S = div-eq_of_eq-mul_left g.u-pos (omega (arith, ap (λ (z : ℕ). z * S) u_m)) in
        let y : S / u ≡ c + e = div-eq_of_eq-mul_left g.u-pos (sym u_s) in
        rw (divisor, x, y)

    -- from no column does a smaller multiple stay in the block
    pub one-least : (q m : ℕ) → q < k → 0 < m → Fits M k q (m * S % M) → a + b ≤ m
    one-least q m l pos f = ⊎_elim (λ s. s) (λ s. absurd (clash s f)) (le-or-lt (a + b) m)
      where
        clash : m < a + b → Fits M k q (m * S % M) → ⊥
        clash s (inl t) = omega (arith, g.near m pos s)
        clash s (inr t) = omega (arith, g.near m pos s)

  -- the rests do not become equal while one is k or more, if the divisor is below k
  pub unequal : gcd S M < k → (k ≤ u) ⊎ (k ≤ v) → u ≡ v → ⊥
  unequal d l same =
      let big : k ≤ u = ⊎_elim (λ s. s) (λ s. omega arith) l in
      omega (arith, divisor same big)
