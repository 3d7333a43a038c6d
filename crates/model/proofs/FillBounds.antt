-- How large the numbers are that a fill reports.
use Prim.Native.Nat.{ℕ, ◌-◌, ◌≤◌, ◌<◌, zero-le}
use mathlib.Core.Path.{◌≡◌, refl}
use mathlib.Core.Bool.{Bool, true, false, cond, ◌||◌}
use mathlib.Core.List.{List, [], ◌∷◌}
use native.Mathlib.Omega.{arith}
use lib.Dec.{ltb, eqb}
use borrow.Author.Tests.{eqb-false, ltb-false}
use Rattle.model.specs.Ownership.{nat}
use Rattle.model.specs.Sections.{count}
use Rattle.model.specs.Filling.{Walk, Filled, stopped, wrote, fill_by}
use Rattle.model.specs.Calls.{FillCall, walk_of, fill}
use Rattle.model.proofs.NeighbourLaws.{cost-le, cost-some}
use Rattle.model.proofs.FillCalls.{fill-cases}
use Rattle.model.proofs.ByteFillsHold.{next_le}

-- no more entries than tries, no more tries than the quota, and no place past the count
pub record Within (quota end : ℕ) (f : Filled) : Type 0 where
  pub entries : f.entries ≤ f.tries
  pub tries : f.tries ≤ quota
  pub place : f.place ≤ end

module _ (w : Walk) (some : (t : ℕ) → 1 ≤ w.cost t) (cheap : (t : ℕ) → w.cost t ≤ w.least) (on : (t : ℕ) → t < w.count → w.next t ≤ w.count) where
  pub fill-within : (t quota : ℕ) (l : List ℕ) → t ≤ w.count → Within quota w.count (fill_by w t quota l)
  unfolding fill_by
  fill-within t quota [] h = record { entries = zero-le; tries = zero-le; place = h }
  fill-within t quota (x ∷ xs) h =
      go (fill_by w (w.next t) (quota - w.cost t) xs) (λ k. fill-within (w.next t) (quota - w.cost t) xs (on t k))
      (eqb t w.count) refl (ltb quota w.least) refl
    where
      still : Within quota w.count (stopped t (x ∷ xs))
      still = record { entries = zero-le; tries = zero-le; place = h }

      go : (r : Filled) → (t < w.count → Within (quota - w.cost t) w.count r) → (b : Bool) → eqb t w.count ≡ b → (c : Bool) → ltb quota w.least ≡ c
          → Within quota w.count (cond (b || c) (stopped t (x ∷ xs)) (wrote (w.address t) (w.cost t) r))
      go r ih true e c f = still
      go r ih false e true f = still
      go r ih false e false f =
          let v = ih (omega (arith, eqb-false t w.count e)) in
          record {
            entries = omega (arith, v.entries, some t);
            tries = omega (arith, v.tries, cheap t, ltb-false quota w.least f);
            place = v.place;
          }

-- a fill's quota is at most 1,000,000
pub fill-bounds : (c : FillCall) → Within 1000000 (count c.section) (fill c).filled
unfolding walk_of
fill-bounds c =
    let x = c.section in
    fill-cases c (Within 1000000 (count x))
    (λ y.
    let v : Within (nat c.quota) (count x) (fill_by (walk_of x) (nat c.place) (nat c.quota) c.list) =
    fill-within (walk_of x) (cost-some x) (cost-le x) (next_le x y.section) (nat c.place) (nat c.quota) c.list y.place in
    record { entries = v.entries; tries = omega (arith, v.tries, y.quota.upto); place = v.place })
    (λ f z. record { entries = omega (arith, z.0.0); tries = omega (arith, z.0.1.0); place = omega (arith, z.0.1.1.0) })
