-- A walk repeats: from a column that comes back the same steps are taken again, for the same costs. Assumes nothing.
use Prim.Native.Nat.{ℕ, zero, suc, ◌+◌, ◌≤◌, ◌<◌}
use mathlib.Core.Path.{◌≡◌, refl, sym, ap, ◌∙◌, subst}
use mathlib.Core.Bool.{true}
use mathlib.Core.Logic.{◌⊎◌, inl, inr}
use native.Mathlib.Nat.{add-zero}
use native.Mathlib.Decide.{dec_lt}
use native.Mathlib.Omega.{arith}
use borrow.Author.Tests.{lt-ltb, le-ltb}
use Rattle.model.specs.Filling.{Walk}
use Rattle.walk.specs.declared.moves.Moves.{Moves}
use Rattle.walk.specs.Moving.{move_from, at_most}
use Rattle.walk.specs.Driving.{Paces}
use Rattle.walk.proofs.PlaceLaws.{places_on, costs_on, places-suc, costs-suc}

-- a place that is not yet the count was not stopped there
below : (count t : ℕ) → at_most count t < count → t < count
below count t h = elim (dec_lt t count) [
  | yes l ↦ l
  | no n ↦ let e = le-ltb t count (omega arith) in absurd (omega (arith, rw e at h))
]

is_below_lem : (count t : ℕ) → t < count → at_most count t ≡ t
is_below_lem count t h = rw (lt-ltb t count h)

module _ (w : Walk) (m : Moves) (p : Paces w m) where
  -- how far the step from place x goes
  abbrev pub reach : ℕ → ℕ
  reach x = (move_from m (p.column x)).places

  -- the walk goes so many steps from place t without coming to the count
  abbrev pub Inside : ℕ → ℕ → Type 0
  Inside t k = (j : ℕ) → j ≤ k → places_on w j t < w.count

  -- one step
  module _ {x : ℕ} (here : x < w.count) (mine : p.mine x ≡ true) where
    pub step-below : w.next x < w.count → (w.next x ≡ x + reach x) × (x + reach x < w.count)
    step-below h =
        let e = p.next x here mine in
        let l = below w.count (x + reach x) (subst (λ (z : ℕ). z < w.count) e h) in
        (e ∙ is_below_lem w.count (x + reach x) l, l)

  -- the processor's places follow one another, and rise
  pub inside-mine : {t : ℕ} → p.mine t ≡ true → (k : ℕ) → Inside t k → p.mine (places_on w k t) ≡ true
  unfolding places_on
  inside-mine mine zero h = mine
  inside-mine {t} mine (suc k) h =
      let here = h k (omega arith) in
      let o = inside-mine mine k (λ j g. h j (omega arith)) in
      let e = places-suc w k t in
      let s = step-below here o (subst (λ (z : ℕ). z < w.count) e (h (suc k) (omega arith))) in
      subst (λ (z : ℕ). p.mine z ≡ true) (sym (e ∙ s.0)) (p.same _ here o s.1)

  pub inside-rises : {t : ℕ} → p.mine t ≡ true → (k j : ℕ) → Inside t (j + k) → places_on w j t ≤ places_on w (j + k) t
  inside-rises mine zero j h = rw add-zero (omega arith)
  inside-rises {t} mine (suc k) j h =
      let n : ℕ = j + k in
      let more : j + suc k ≡ suc (j + k) = omega arith in
      let part : Inside t (j + k) = λ i g. h i (omega arith) in
      let here = h (j + k) (omega arith) in
      let e = places-suc w (j + k) t in
      let last : w.next (places_on w (j + k) t) < w.count = subst (λ (z : ℕ). z < w.count) e (h (suc (j + k)) (omega arith)) in
      let s = step-below here (inside-mine mine n part) last in
      rw more (omega (arith, inside-rises mine k j part, e, s.0))

  -- ---- two places in one column

  -- x and the place D further are places of the processor in one column
  pub record Beside (D x : ℕ) : Type 0 where
    pub far : x + D < w.count
    pub mine : p.mine x ≡ true
    pub mine' : p.mine (x + D) ≡ true
    pub column : p.column (x + D) ≡ p.column x

  -- the step from either leads to a place, if one of the two is known to
  abbrev OneInside : ℕ → ℕ → Type 0
  OneInside far near+D = (far < w.count) ⊎ (near+D < w.count)

  module _ {D x : ℕ} (b : Beside D x) where
    near : x < w.count
    near = omega (arith, b.far)

    beside-cost : w.cost (x + D) ≡ w.cost x
    beside-cost = p.cost (x + D) b.far b.mine' ∙ ap (λ (q : ℕ). (move_from m q).tries) b.column ∙ sym (p.cost x near b.mine)

    same-reach : reach (x + D) ≡ reach x
    same-reach = ap (λ (q : ℕ). (move_from m q).places) b.column

    both-inside : OneInside (w.next (x + D)) (w.next x + D) → x + reach x + D < w.count
    both-inside (inl h) = omega (arith, (step-below b.far b.mine' h).1, same-reach)
    both-inside (inr h) =
        let s = step-below near b.mine (omega arith) in
        omega (arith, s.0)

    module _ (h : x + reach x + D < w.count) where
      next-near : w.next x ≡ x + reach x
      next-near = p.next x near b.mine ∙ is_below_lem w.count (x + reach x) (omega arith)

      next-far : w.next (x + D) ≡ x + reach x + D
      next-far =
          let e : x + D + reach (x + D) ≡ x + reach x + D = omega (arith, same-reach) in
          p.next (x + D) b.far b.mine' ∙ ap (at_most w.count) e ∙ is_below_lem w.count (x + reach x + D) h

      beside-on : Beside D (x + reach x)
      beside-on =
          let e : x + D + reach (x + D) ≡ x + reach x + D = omega (arith, same-reach) in
          let l : x + D + reach (x + D) < w.count = omega (arith, e) in
          record {
            far = h;
            mine = p.same x near b.mine (omega arith);
            mine' = subst (λ (z : ℕ). p.mine z ≡ true) e (p.same (x + D) b.far b.mine' l);
            column =
                ap p.column (sym e) ∙ p.columns (x + D) b.far b.mine' l ∙ ap (λ (q : ℕ). (move_from m q).column) b.column
                ∙ sym (p.columns x near b.mine (omega arith));
          }

  -- so many steps later they are so too, and cost as much
  pub record Along (D t k : ℕ) : Type 0 where
    pub beside : Beside D (places_on w k t)
    pub place : places_on w k (t + D) ≡ places_on w k t + D
    pub cost : costs_on w k (t + D) ≡ costs_on w k t

  pub along : {D t : ℕ} → Beside D t → (k : ℕ) → ((j : ℕ) → j ≤ k → OneInside (places_on w j (t + D)) (places_on w j t + D)) → Along D t k
  unfolding places_on costs_on
  along b zero h = record { beside = b; place = refl; cost = refl }
  along {D} {t} b (suc k) h =
      let a = along b k (λ j g. h j (omega arith)) in
      let far = places-suc w k (t + D) ∙ ap w.next a.place in
      let near = places-suc w k t in
      let one = subst (λ (z : ℕ). OneInside (places_on w (suc k) (t + D)) (z + D)) near (h (suc k) (omega arith)) in
      let l = both-inside a.beside (subst (λ (z : ℕ). OneInside z (w.next (places_on w k t) + D)) far one) in
      let on = next-near a.beside l in
      record {
        beside = rw (near, on) (beside-on a.beside l);
        place = rw (near, on) (far ∙ next-far a.beside l);
        cost =
            costs-suc w k (t + D)
            ∙ (λ i. a.cost i + w.cost (a.place i))
            ∙ ap (λ (c : ℕ). costs_on w k t + c) (beside-cost a.beside)
            ∙ sym (costs-suc w k t);
      }
