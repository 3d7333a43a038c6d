-- Fills along a walk on a base are those along the walk with each address so much higher; a fill that reached the count does so
-- again with as many tries and as much room; and what a fill writes, entry by entry. Over any walk. Assumes nothing.
use Prim.Native.Nat.{ℕ, zero, suc, ◌+◌, ◌-◌, ◌≤◌, ◌<◌}
use mathlib.Core.Path.{◌≡◌, refl, sym, ap, ◌∙◌}
use mathlib.Core.Bool.{Bool, true, false, cond, ◌||◌, true≢false}
use mathlib.Core.List.{List, [], ◌∷◌, ◌++◌, map}
use native.Mathlib.Omega.{arith}
use lib.Dec.{eqb, ltb}
use lib.ListN.{length, get_or, take, drop}
use borrow.Author.Tests.{eq-eqb}
use Rattle.model.specs.Filling.{Walk, on_base, Filled, stopped, wrote, fill_by}
use Rattle.model.proofs.FillLoopLaws.{writes, stops}

-- ---- on a base

-- each address that was written lies so much higher
abbrev pub on_top : ℕ → Filled → Filled
on_top base g = record {
  entries = g.entries;
  tries = g.tries;
  place = g.place;
  list = map (λ (z : ℕ). base + z) (take g.entries g.list) ++ drop g.entries g.list;
}

pub fill-base : (base : ℕ) (w : Walk) (t quota : ℕ) (l : List ℕ) → fill_by (on_base base w) t quota l ≡ on_top base (fill_by w t quota l)
unfolding fill_by
fill-base base w t quota [] = refl
fill-base base w t quota (x ∷ xs) = go (fill-base base w (w.next t) (quota - w.cost t) xs) (eqb t w.count || ltb quota w.least)
  where
    go : fill_by (on_base base w) (w.next t) (quota - w.cost t) xs ≡ on_top base (fill_by w (w.next t) (quota - w.cost t) xs) → (b : Bool)
        → cond b (stopped t (x ∷ xs)) (wrote (base + w.address t) (w.cost t) (fill_by (on_base base w) (w.next t) (quota - w.cost t) xs))
        ≡ on_top base (cond b (stopped t (x ∷ xs)) (wrote (w.address t) (w.cost t) (fill_by w (w.next t) (quota - w.cost t) xs)))
    go ih true = refl
    go ih false = ap (wrote (base + w.address t) (w.cost t)) ih

-- ---- once more

module _ (w : Walk) (least : w.least ≡ 3) (some : (t : ℕ) → 1 ≤ w.cost t) where
  -- what g wrote, over the list l
  abbrev pub once : Filled → List ℕ → Filled
  once g l = record { entries = g.entries; tries = g.tries; place = g.place; list = take g.entries g.list ++ drop g.entries l }

  pub again : (l : List ℕ) (t quota : ℕ) → (fill_by w t quota l).place ≡ w.count
      → (left : ℕ) (k : List ℕ) → (fill_by w t quota l).tries + 2 ≤ left → (fill_by w t quota l).entries ≤ length k
      → fill_by w t left k ≡ once (fill_by w t quota l) k
  unfolding fill_by
  again [] t quota e left k h room = stops w t left k (rw (eq-eqb t w.count e))
  again (x ∷ xs) t quota e left k h room =
      go (eqb t w.count || ltb quota w.least) refl (fill_by w (w.next t) (quota - w.cost t) xs) (again xs (w.next t) (quota - w.cost t)) k e h room
    where
      go : (b : Bool) → (eqb t w.count || ltb quota w.least) ≡ b → (r : Filled)
          → (r.place ≡ w.count → (left' : ℕ) (k' : List ℕ) → r.tries + 2 ≤ left' → r.entries ≤ length k' → fill_by w (w.next t) left' k' ≡ once r k')
          → (k' : List ℕ) → let f : Filled = cond b (stopped t (x ∷ xs)) (wrote (w.address t) (w.cost t) r) in
          f.place ≡ w.count → f.tries + 2 ≤ left → f.entries ≤ length k' → fill_by w t left k' ≡ once f k'
      go true s r ih k' p q z = stops w t left k' (rw (eq-eqb t w.count p))
      go false s r ih [] p q z = absurd (omega arith)
      go false s r ih (y ∷ ys) p q z =
          let c = some t in
          writes w t left y ys (λ i. true≢false (sym (rw (eq-eqb t w.count i)) ∙ s)) (omega (arith, least))
          ∙ ap (wrote (w.address t) (w.cost t)) (ih p (left - w.cost t) ys (omega arith) (omega arith))

-- ---- entry by entry

-- the place after n steps
unfoldable pub after : Walk → ℕ → ℕ → ℕ
after w t zero = t
after w t (suc n) = after w (w.next t) n

pub after_next : (w : Walk) (t n : ℕ) → after w t (suc n) ≡ w.next (after w t n)
unfolding after
after_next w t zero = refl
after_next w t (suc n) = after_next w (w.next t) n

-- what stands at entry n of the list of a fill from place t, if it wrote so many
pub record Wrote (w : Walk) (t n : ℕ) (f : Filled) : Type 0 where
  pub before : after w t n ≡ w.count → ⊥
  pub entry : get_or f.list n 0 ≡ w.address (after w t n)

module _ (w : Walk) where
  pub wrote_at : (l : List ℕ) (t quota n : ℕ) → n < (fill_by w t quota l).entries → Wrote w t n (fill_by w t quota l)
  unfolding fill_by after
  wrote_at [] t quota n h = absurd (omega arith)
  wrote_at (x ∷ xs) t quota n h =
      go (eqb t w.count || ltb quota w.least) refl n (fill_by w (w.next t) (quota - w.cost t) xs) (wrote_at xs (w.next t) (quota - w.cost t)) h
    where
      go : (b : Bool) → (eqb t w.count || ltb quota w.least) ≡ b → (m : ℕ) (r : Filled) → ((k : ℕ) → k < r.entries → Wrote w (w.next t) k r)
          → let f : Filled = cond b (stopped t (x ∷ xs)) (wrote (w.address t) (w.cost t) r) in
          m < f.entries → Wrote w t m f
      go true s m r ih k = absurd (omega arith)
      go false s zero r ih k = record { before = λ i. true≢false (sym (rw (eq-eqb t w.count i)) ∙ s); entry = refl }
      go false s (suc m) r ih k = let i = ih m (omega arith) in record { before = i.before; entry = i.entry }

  pub place_after : (l : List ℕ) (t quota : ℕ) → (fill_by w t quota l).place ≡ after w t (fill_by w t quota l).entries
  unfolding fill_by after
  place_after [] t quota = refl
  place_after (x ∷ xs) t quota = go (eqb t w.count || ltb quota w.least) (place_after xs (w.next t) (quota - w.cost t))
    where
      go : (b : Bool)
          → (fill_by w (w.next t) (quota - w.cost t) xs).place ≡ after w (w.next t) (fill_by w (w.next t) (quota - w.cost t) xs).entries
          → let f : Filled = cond b (stopped t (x ∷ xs)) (wrote (w.address t) (w.cost t) (fill_by w (w.next t) (quota - w.cost t) xs)) in
          f.place ≡ after w t f.entries
      go true ih = refl
      go false ih = ih

  -- what holds of a place, and of the place after each of which it holds, holds after so many steps
  pub after-keeps : (P : ℕ → Type 0) → ((u : ℕ) → (u ≡ w.count → ⊥) → P u → P (w.next u)) → (l : List ℕ) (t quota n : ℕ)
      → n ≤ (fill_by w t quota l).entries → P t → P (after w t n)
  unfolding after
  after-keeps P on l t quota zero h p = p
  after-keeps P on l t quota (suc n) h p =
      rw (after_next w t n) (on (after w t n) (wrote_at l t quota n h).before (after-keeps P on l t quota n (omega arith) p))
