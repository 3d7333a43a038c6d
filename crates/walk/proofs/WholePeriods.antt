-- Whole periods of a walk that repeats, and steps after them: their places, costs and addresses. Assumes nothing.
use Prim.Native.Nat.{ℕ, zero, suc, ◌+◌, ◌-◌, ◌*◌, ◌%◌, ◌≤◌, ◌<◌}
use mathlib.Core.Path.{◌≡◌, sym, ap, ◌∙◌, subst}
use mathlib.Core.Bool.{true}
use mathlib.Core.Logic.{inr}
use native.Mathlib.Nat.{add-zero}
use native.Mathlib.Decide.{dec_lt}
use native.Mathlib.Omega.{arith}
use Rattle.model.specs.Filling.{Walk}
use Rattle.walk.specs.declared.moves.Moves.{Moves}
use Rattle.walk.specs.declared.moves.State.{State}
use Rattle.walk.specs.Moving.{move_from, at_most}
use Rattle.walk.specs.Driving.{Paces}
use Rattle.walk.specs.Bursts.{steps_on}
use Rattle.walk.proofs.MoveLaws.{at-most-is}
use Rattle.walk.proofs.PlaceLaws.{places_on, costs_on, places-add, costs-add, places-suc, costs-suc}
use Rattle.walk.proofs.RepeatLaws.{reach, Inside, Beside, Along, along, inside-rises, step-below}

module _ (w : Walk) (m : Moves) (p : Paces w m) where
  -- ---- addresses

  -- from two places in one column the address moves alike
  abbrev pub Level : Type 0
  Level = (x y A : ℕ) → x < w.count → y < w.count → p.mine x ≡ true → p.mine y ≡ true → p.column y ≡ p.column x
      → x + reach w m p x < w.count → y + reach w m p x < w.count
      → w.address y ≡ (w.address x + A) % 4294967296 → w.address (y + reach w m p x) ≡ (w.address (x + reach w m p x) + A) % 4294967296

  pub along-address : Level → {D t : ℕ} (A : ℕ) → w.address (t + D) ≡ (w.address t + A) % 4294967296 → (k : ℕ)
      → ((j : ℕ) → j ≤ k → Along w m p D t j) → w.address (places_on w k t + D) ≡ (w.address (places_on w k t) + A) % 4294967296
  unfolding places_on
  along-address level A e zero a = e
  along-address level {D} {t} A e (suc k) a =
      let x : ℕ = places_on w k t in
      let here = (a k (omega arith)).beside in
      let there = (a (suc k) (omega arith)).beside in
      let inside : places_on w (suc k) t < w.count = omega (arith, there.far) in
      let next = places-suc w k t in
      let on : places_on w (suc k) t ≡ x + reach w m p x = next ∙ (step-below w m p (omega (arith, here.far)) here.mine (subst (λ (z : ℕ). z < w.count) next inside)).0 in
      let more : x + D + reach w m p x ≡ x + reach w m p x + D = omega arith in
      rw (on, ← more)
      (level x (x + D) A (omega (arith, here.far)) here.far here.mine here.mine' here.column (omega (arith, on))
      (omega (arith, on, there.far)) (along-address level A e k (λ j g. a j (omega arith))))

  -- ---- whole periods: from place t so many steps lead P further, to its column

  module _ {t e P : ℕ} (start : Beside w m p P t) (back : places_on w e t ≡ t + P) (inside : Inside w m p t e) where
    low : (j : ℕ) → j ≤ e → places_on w j t ≤ t + P
    low j h =
        let n : j + (e - j) ≡ e = omega arith in
        let r = inside-rises w m p start.mine (e - j) j (λ i g. inside i (omega arith)) in
        omega (arith, back, ap (λ (z : ℕ). places_on w z t) n)

    pub record Whole (i : ℕ) : Type 0 where
      pub place : places_on w (i * e) t ≡ t + i * P
      pub cost : costs_on w (i * e) t ≡ i * costs_on w e t
      pub beside : Beside w m p (i * P) t
      pub all : Inside w m p t (i * e)

    pub whole : (i : ℕ) → t + i * P < w.count → Whole i
    unfolding places_on costs_on
    whole zero h =
        let none : 0 * P ≡ 0 = omega arith in
        let steps : 0 * e ≡ 0 = omega arith in
        record {
          place = ap (λ (n : ℕ). places_on w n t) steps ∙ omega arith;
          cost = ap (λ (n : ℕ). costs_on w n t) steps ∙ omega arith;
          beside = subst (λ (D : ℕ). Beside w m p D t) (sym none) here;
          all = λ j g. let k : j ≡ 0 = omega arith in rw k (omega arith);
        }
      where
        here : Beside w m p 0 t
        here = record { far = omega arith; mine = start.mine; mine' = rw add-zero start.mine; column = ap p.column (add-zero t) }
    whole (suc i) h =
        let less : t + i * P < w.count = omega arith in
        let v = whole i less in
        let a = along w m p v.beside e (λ j g. inr (omega (arith, low j g))) in
        let steps : suc i * e ≡ i * e + e = omega arith in
        let u : ℕ = t + i * P in
        let end : t + suc i * P ≡ t + P + i * P = omega arith in
        let there = a.beside in
        record {
          place = rw (steps, places-add w (i * e) e t, v.place) (a.place ∙ omega (arith, back));
          cost = rw (steps, costs-add w (i * e) e t, v.place) (omega (arith, v.cost, a.cost));
          beside = record {
            far = h;
            mine = start.mine;
            mine' = rw end (subst (λ (z : ℕ). p.mine (z + i * P) ≡ true) back there.mine');
            column = rw end (subst (λ (z : ℕ). p.column (z + i * P) ≡ p.column z) back there.column ∙ start.column);
          };
          all = λ j g. elim (dec_lt j (i * e)) [
            | yes l ↦ v.all j (omega arith)
            | no n ↦
                let k : ℕ = j - i * e in
                let cut : j ≡ i * e + k = omega arith in
                let b = along w m p v.beside k (λ n f. inr (omega (arith, low n (omega arith)))) in
                rw (cut, places-add w (i * e) k t, v.place, b.place) (omega (arith, low k (omega arith)))
          ];
        }

  -- ---- steps from a state that stands at place u

  module _ (δ : ℕ → ℕ) (z : State) (u : ℕ) (at : z.place.0 ≡ u) (q₀ : z.column ≡ p.column u) (o₀ : p.mine u ≡ true) where
    -- where so many steps came to: at the walk's place, in its column, with its costs paid
    pub record Stepped (k : ℕ) : Type 0 where
      pub place : places_on w k u ≡ at_most w.count (steps_on m δ k z).place.0
      pub cost : (steps_on m δ k z).paid ≡ z.paid + costs_on w k u
      pub column : (steps_on m δ k z).place.0 < w.count → (steps_on m δ k z).column ≡ p.column (steps_on m δ k z).place.0
      pub mine : (steps_on m δ k z).place.0 < w.count → p.mine (steps_on m δ k z).place.0 ≡ true

    pub steps-walk : u < w.count → (k : ℕ) → ((i : ℕ) → i < k → (steps_on m δ i z).place.0 < w.count) → Stepped k
    unfolding steps_on places_on costs_on
    steps-walk here zero h = record {
      place = rw at (sym (at-most-is w.count u (omega arith)));
      cost = sym (add-zero z.paid);
      column = λ l. q₀ ∙ ap p.column (sym at);
      mine = λ l. rw at o₀;
    }
    steps-walk here (suc k) h =
        let v = steps-walk here k (λ i g. h i (omega arith)) in
        let s : State = steps_on m δ k z in
        let x : ℕ = s.place.0 in
        let l = h k (omega arith) in
        let q = v.column l in
        let o = v.mine l in
        let is : places_on w k u ≡ x = v.place ∙ at-most-is w.count x (omega arith) in
        let far : x + (move_from m s.column).places ≡ x + reach w m p x = ap (λ (c : ℕ). x + (move_from m c).places) q in
        record {
          place = places-suc w k u ∙ ap w.next is ∙ p.next x l o ∙ ap (at_most w.count) (sym far);
          cost =
              (λ i. v.cost i + (move_from m (q i)).tries) ∙ omega (arith, costs-suc w k u, ap w.cost is, p.cost x l o);
          column = λ g. rw far (ap (λ (c : ℕ). (move_from m c).column) q ∙ sym (p.columns x l o (rw far at g)));
          mine = λ g. rw far (p.same x l o (rw far at g));
        }
