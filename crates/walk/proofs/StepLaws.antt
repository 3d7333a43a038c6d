-- What a loop of steps without a list keeps, and how long a period is. Assumes nothing.
use Prim.Native.Nat.{ℕ, ◌+◌, ◌-◌, ◌/◌, ◌%◌, ◌≤◌, ◌<◌}
use mathlib.Core.Path.{◌≡◌, refl, ap}
use native.Mathlib.Decide.{dec_lt}
use native.Mathlib.Numerals.{add-one}
use native.Mathlib.Omega.{arith}
use borrow.Author.Tests.{eq-eqb, ne_eqb}
use Rattle.numbers.specs.Gcd.{gcd}
use Rattle.walk.specs.declared.moves.Moves.{Moves}
use Rattle.walk.specs.declared.moves.State.{State}
use Rattle.walk.specs.Moving.{add_from, stepped_by, stepped, Small, Sound, Roomy}
use Rattle.walk.specs.Bursts.{steps_on}
use Rattle.walk.specs.Repeating.{period_steps}
use Rattle.walk.proofs.MoveLaws.{light}
use Rattle.walk.proofs.BurstLaws.{steps-within}

-- one step, or two
pub period-one : (m : Moves) (q : ℕ) → m.up ≡ 0 → 1 ≡ period_steps m q
unfolding period_steps
period-one m q e = rw (eq-eqb m.up 0 e)

pub period-more : (m : Moves) (q d : ℕ) → (m.up ≡ 0 → ⊥) → d ≡ gcd m.up m.down → (m.block - 1 - q % d) / d + 1 ≡ period_steps m q
unfolding period_steps
period-more m q d h e = rw (e, ne_eqb m.up 0 h)

module _ (m : Moves) (count quota : ℕ) (s₀ : State) (most : ℕ) where
  pub record Stepping (s : State) (i : ℕ) : Type 0 where
    pub low : i ≤ most
    pub each : (j : ℕ) → j < i → ((steps_on m (add_from m) j s₀).place.0 < count) × ((steps_on m (add_from m) j s₀).paid + 3 ≤ quota)
    pub state : s ≡ steps_on m (add_from m) i s₀
    pub paid : s.paid ≤ quota

  pub stepping-starts : s₀.paid ≤ quota → Stepping s₀ 0
  unfolding steps_on
  stepping-starts h = record { low = omega arith; each = λ j l. absurd (omega arith); state = refl; paid = h }

  module _ (small : Small m) (sound : Sound m s₀) {s : State} {i : ℕ} (v : Stepping s i) where
    at : Sound m s
    at = rw v.state (steps-within m small (add_from m) s₀ sound i).sound

    module _ (here : s.place.0 < count) (tries : 3 ≤ quota - s.paid) where
      pub stepping-asks : count < 2147483648 → quota < 2147483648 → Small m × Sound m s × Roomy s
      stepping-asks few low = (small, at, record { place = omega arith; paid = omega (arith, v.paid) })

      pub stepping-turns : i < most → {s' : State} → s' ≡ stepped m s → Stepping s' (i + 1)
      unfolding steps_on stepped
      stepping-turns h {s'} e = rw (add-one, e) (record {
        low = h;
        each = λ j l. elim (dec_lt j i) [
          | yes g ↦ v.each j g
          | no g ↦
              let k : j ≡ i = omega arith in
              rw (k, ← v.state) (here, omega arith)
        ];
        state = ap (stepped_by m (add_from m)) v.state;
        paid = omega (arith, (light m s.column small at.column).tries);
      })
