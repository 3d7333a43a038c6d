-- A walk along the numbers below N that pass one test finds those that pass another test too.
use Prim.Native.Nat.{ℕ, zero, suc, ◌+◌, ◌-◌, ◌≤◌, ◌<◌}
use mathlib.Core.Path.{◌≡◌, refl, sym, ap, ◌∙◌}
use mathlib.Core.Bool.{Bool, true, false, ◌&&◌}
use mathlib.Core.List.{List, ◌∷◌}
use native.Mathlib.Nat.{le_refl, zero-add}
use native.Mathlib.Omega.{arith}
use Rattle.numbers.specs.Search.{passing, head_or}
use Rattle.numbers.proofs.SearchLaws.{passing-none, passing-yes, passing-no}

module _ (f g : ℕ → Bool) (N : ℕ) where
  abbrev pub both : ℕ → Bool
  both t = f t && g t

  -- the numbers from t on that pass both
  abbrev pub from : ℕ → List ℕ
  from t = passing both t (N - t)

  -- the walk stands at a number that passes, or at its end
  pub record Stands (t : ℕ) : Type 0 where
    pub inside : t ≤ N
    pub mine : t < N → f t ≡ true

  -- from a on it leads to u, past none that pass both
  pub record Led (a n u : ℕ) : Type 0 where
    pub stands : Stands u
    pub on : a ≤ u
    pub rest : passing both a n ≡ from u

  lead : (n a : ℕ) → a + n ≡ N → Led a n (head_or N (passing f a n))
  unfolding head_or
  lead zero a e =
      let z : N - N ≡ 0 = omega arith in
      rw (passing-none f a)
      (record {
        stands = record { inside = le_refl N; mine = λ h. absurd (omega arith) };
        on = omega arith;
        rest = passing-none both a ∙ sym (ap (passing both N) z ∙ passing-none both N);
      })
  lead (suc n) a e = go (lead n (suc a) (omega arith)) (f a) refl
    where
      left : N - a ≡ suc n
      left = omega arith

      go : Led (suc a) n (head_or N (passing f (suc a) n)) → (b : Bool) → f a ≡ b → Led a (suc n) (head_or N (passing f a (suc n)))
      go l true p =
          rw (passing-yes f a n p)
          (record { stands = record { inside = omega arith; mine = λ h. p }; on = le_refl a; rest = ap (passing both a) (sym left) })
      go l false p =
          rw (passing-no f a n p)
          (record { stands = l.stands; on = omega (arith, l.on); rest = passing-no both a n (rw p) ∙ l.rest })

  pub first-led : (u : ℕ) → u ≡ head_or N (passing f 0 N) → Led 0 N u
  first-led u e = rw e (lead N 0 (zero-add N))

  -- a turn: from t on to the next that passes the first test
  module _ (t u : ℕ) (h : t < N) (next : u ≡ head_or N (passing f (suc t) (N - suc t))) where
    pub next-led : Led (suc t) (N - suc t) u
    next-led = rw next (lead (N - suc t) (suc t) (omega arith))

    split : N - t ≡ suc (N - suc t)
    split = omega arith

    pub found : f t ≡ true → g t ≡ true → from t ≡ t ∷ from u
    found p e =
        ap (passing both t) split ∙ passing-yes both t (N - suc t) (rw (p, e)) ∙ ap (λ (z : List ℕ). t ∷ z) next-led.rest

    pub missed : g t ≡ false → from t ≡ from u
    missed e = ap (passing both t) split ∙ passing-no both t (N - suc t) (none (f t)) ∙ next-led.rest
      where
        none : (b : Bool) → (b && g t) ≡ false
        none true = e
        none false = refl
