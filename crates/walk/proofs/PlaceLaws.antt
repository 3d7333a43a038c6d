-- The places of a walk, one step after another, and what a fill along them writes. Assumes nothing.
use Prim.Native.Nat.{ℕ, zero, suc, ◌+◌, ◌-◌, ◌≤◌, ◌<◌}
use mathlib.Core.Path.{◌≡◌, refl, sym, ap, ◌∙◌}
use mathlib.Core.Bool.{Bool, true, false, cond, ◌||◌}
use mathlib.Core.List.{List, [], ◌∷◌, ◌++◌}
use native.Mathlib.Nat.{zero-add, sub-add-eq, sub-zero, add_assoc}
use native.Mathlib.Omega.{arith}
use lib.Dec.{eqb, ltb}
use lib.ListN.{length, get_or, take, drop}
use borrow.Author.Tests.{eqb-false, ltb-false}
use Rattle.model.specs.Filling.{Walk, Filled, stopped, wrote, fill_by}
use Rattle.model.proofs.FillLoopLaws.{writes}

module _ (w : Walk) where
  -- the place after n steps from place t, what they cost, and the addresses that they pass
  unfoldable pub places_on : ℕ → ℕ → ℕ
  places_on zero t = t
  places_on (suc n) t = places_on n (w.next t)

  unfoldable pub costs_on : ℕ → ℕ → ℕ
  costs_on zero t = 0
  costs_on (suc n) t = w.cost t + costs_on n (w.next t)

  unfoldable pub addresses_on : ℕ → ℕ → List ℕ
  addresses_on zero t = []
  addresses_on (suc n) t = w.address t ∷ addresses_on n (w.next t)

  -- ---- more steps

  pub places-add : (n k t : ℕ) → places_on (n + k) t ≡ places_on k (places_on n t)
  unfolding places_on
  places-add zero k t = rw (zero-add k)
  places-add (suc n) k t =
      let e : suc n + k ≡ suc (n + k) = omega arith in
      rw e (places-add n k (w.next t))

  pub costs-add : (n k t : ℕ) → costs_on (n + k) t ≡ costs_on n t + costs_on k (places_on n t)
  unfolding places_on costs_on
  costs-add zero k t = rw (zero-add k, zero-add (costs_on k t))
  costs-add (suc n) k t =
      let e : suc n + k ≡ suc (n + k) = omega arith in
      rw e (ap (λ (c : ℕ). w.cost t + c) (costs-add n k (w.next t)) ∙ sym (add_assoc (w.cost t) (costs_on n (w.next t)) _))

  pub places-suc : (n t : ℕ) → places_on (suc n) t ≡ w.next (places_on n t)
  unfolding places_on
  places-suc zero t = refl
  places-suc (suc n) t = places-suc n (w.next t)

  pub costs-suc : (n t : ℕ) → costs_on (suc n) t ≡ costs_on n t + w.cost (places_on n t)
  unfolding places_on costs_on
  costs-suc zero t = omega arith
  costs-suc (suc n) t = ap (λ (c : ℕ). w.cost t + c) (costs-suc n (w.next t)) ∙ sym (add_assoc (w.cost t) (costs_on n (w.next t)) _)

  pub costs-rise : (n k t : ℕ) → n ≤ k → costs_on n t ≤ costs_on k t
  costs-rise n k t h =
      let e : n + (k - n) ≡ k = omega arith in
      omega (arith, costs-add n (k - n) t, ap (λ (z : ℕ). costs_on z t) e)

  pub addresses-length : (n t : ℕ) → length (addresses_on n t) ≡ n
  unfolding addresses_on
  addresses-length zero t = refl
  addresses-length (suc n) t = ap suc (addresses-length n (w.next t))

  pub addresses-at : (n t j : ℕ) → j < n → get_or (addresses_on n t) j 0 ≡ w.address (places_on j t)
  unfolding places_on addresses_on
  addresses-at zero t j h = absurd (omega arith)
  addresses-at (suc n) t zero h = refl
  addresses-at (suc n) t (suc j) h = addresses-at n (w.next t) j (omega arith)

  pub addresses-add : (n k t : ℕ) → addresses_on (n + k) t ≡ addresses_on n t ++ addresses_on k (places_on n t)
  unfolding places_on addresses_on
  addresses-add zero k t = rw (zero-add k)
  addresses-add (suc n) k t =
      let e : suc n + k ≡ suc (n + k) = omega arith in
      rw e (ap (λ (l : List ℕ). w.address t ∷ l) (addresses-add n k (w.next t)))

  -- ---- what a fill writes

  -- a fill goes on from the place after j steps
  pub record Open (t quota j : ℕ) : Type 0 where
    pub place : places_on j t ≡ w.count → ⊥
    pub tries : w.least ≤ quota - costs_on j t

  open_next : {t quota j : ℕ} → Open t quota (suc j) → Open (w.next t) (quota - w.cost t) j
  unfolding places_on costs_on
  open_next {t} {quota} {j} o = record { place = o.place; tries = rw (sub-add-eq quota (w.cost t) (costs_on j (w.next t))) at o.tries }

  open_after : {t quota j : ℕ} → Open (w.next t) (quota - w.cost t) j → Open t quota (suc j)
  unfolding places_on costs_on
  open_after {t} {quota} {j} o = record { place = o.place; tries = rw (← sub-add-eq quota (w.cost t) (costs_on j (w.next t))) at o.tries }

  -- n steps, and the fill of what is left
  unfoldable pub stretch : ℕ → ℕ → ℕ → List ℕ → Filled
  stretch n t quota l =
      let r : Filled = fill_by w (places_on n t) (quota - costs_on n t) (drop n l) in
      record { entries = n + r.entries; tries = costs_on n t + r.tries; place = r.place; list = addresses_on n t ++ r.list }

  pub fill-stretch : (n t quota : ℕ) (l : List ℕ) → n ≤ length l → ((j : ℕ) → j < n → Open t quota j) → fill_by w t quota l ≡ stretch n t quota l
  unfolding places_on costs_on addresses_on stretch
  fill-stretch zero t quota l h o = simp (zero-add, sub-zero)
  fill-stretch (suc n) t quota [] h o = absurd (omega arith)
  fill-stretch (suc n) t quota (x ∷ xs) h o =
      let r : Filled = fill_by w (places_on n (w.next t)) (quota - w.cost t - costs_on n (w.next t)) (drop n xs) in
      let c : quota - (w.cost t + costs_on n (w.next t)) ≡ quota - w.cost t - costs_on n (w.next t) = sub-add-eq quota (w.cost t) (costs_on n (w.next t)) in
      let first = o 0 (omega arith) in
      let p : suc (n + r.entries) ≡ suc n + r.entries = omega arith in
      let q : w.cost t + (costs_on n (w.next t) + r.tries) ≡ w.cost t + costs_on n (w.next t) + r.tries = omega arith in
      writes w t quota x xs first.place (rw (sub-zero quota) at first.tries)
      ∙ ap (wrote (w.address t) (w.cost t)) (fill-stretch n (w.next t) (quota - w.cost t) xs (omega arith) (λ j g. open_next (o (suc j) (omega arith))))
      ∙ rw c (λ i. record { entries = p i; tries = q i; place = r.place; list = w.address t ∷ addresses_on n (w.next t) ++ r.list })

  -- a fill is the steps that it wrote
  pub record Stretched (t quota : ℕ) (l : List ℕ) (r : Filled) : Type 0 where
    pub inside : r.entries ≤ length l
    pub each : (j : ℕ) → j < r.entries → Open t quota j
    pub place : r.place ≡ places_on r.entries t
    pub tries : r.tries ≡ costs_on r.entries t
    pub list : take r.entries r.list ≡ addresses_on r.entries t

  none : (t quota : ℕ) (l : List ℕ) → Stretched t quota l (stopped t l)
  unfolding places_on costs_on addresses_on
  none t quota l = record { inside = omega arith; each = λ j h. absurd (omega arith); place = refl; tries = refl; list = refl }

  one_more : (t quota x : ℕ) (l : List ℕ) (r : Filled) → (t ≡ w.count → ⊥) → w.least ≤ quota
      → Stretched (w.next t) (quota - w.cost t) l r → Stretched t quota (x ∷ l) (wrote (w.address t) (w.cost t) r)
  unfolding places_on costs_on addresses_on
  one_more t quota x l r here tries v = record {
    inside = omega (arith, v.inside);
    each = each;
    place = v.place;
    tries = ap (λ (c : ℕ). w.cost t + c) v.tries;
    list = ap (λ (k : List ℕ). w.address t ∷ k) v.list;
  }
    where
      each : (j : ℕ) → j < suc r.entries → Open t quota j
      each zero h = record { place = here; tries = rw (sub-zero quota) tries }
      each (suc j) h = open_after (v.each j (omega arith))

  pub fill-stretched : (t quota : ℕ) (l : List ℕ) → Stretched t quota l (fill_by w t quota l)
  unfolding fill_by
  fill-stretched t quota [] = none t quota []
  fill-stretched t quota (x ∷ l) = go (fill-stretched (w.next t) (quota - w.cost t) l) (eqb t w.count) refl (ltb quota w.least) refl
    where
      r : Filled
      r = fill_by w (w.next t) (quota - w.cost t) l

      go : Stretched (w.next t) (quota - w.cost t) l r → (b : Bool) → eqb t w.count ≡ b → (c : Bool) → ltb quota w.least ≡ c
          → Stretched t quota (x ∷ l) (cond (b || c) (stopped t (x ∷ l)) (wrote (w.address t) (w.cost t) r))
      go v true e c f = none t quota (x ∷ l)
      go v false e true f = none t quota (x ∷ l)
      go v false e false f = one_more t quota x l r (eqb-false t w.count e) (ltb-false quota w.least f) v
