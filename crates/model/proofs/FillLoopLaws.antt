-- What a loop that fills a list keeps, over any walk: the whole fill is what is done so far, and the fill of what is left.
-- It goes on by one entry, or by the fill of a part of the list. A step may cost as many tries as must be left to go on, and
-- no more. Assumes nothing.
use Prim.Native.Nat.{ℕ, suc, ◌+◌, ◌-◌, ◌≤◌, ◌<◌}
use mathlib.Core.Path.{◌≡◌, refl, sym, ap, ◌∙◌}
use mathlib.Core.Bool.{Bool, true, false, cond, ◌||◌, or-true}
use mathlib.Core.List.{List, [], ◌∷◌, ◌++◌, append_assoc}
use native.Mathlib.Nat.{zero-add, add-zero, sub-add-eq, sub-zero, le_refl}
use native.Mathlib.Numerals.{add-one}
use native.Mathlib.Omega.{arith}
use lib.Dec.{eqb, ltb}
use lib.ListN.{length, get_or, take, drop, set, take-append-drop, length-append, length-set, drop_of_length-le}
use lib.Seq.{
  drop-cons,
  take-suc-set,
  drop-set-lt,
  length-take-le,
  take-append-le,
  drop-append-le,
  take-append-add,
  drop-append-add,
}
use borrow.Author.Tests.{eq-eqb, ne_eqb, eqb-false, le-ltb, lt-ltb}
use Rattle.model.specs.Filling.{Walk, Filled, stopped, wrote, fill_by}

-- n entries xs and so many tries were there before what r gives
abbrev ahead : ℕ → ℕ → List ℕ → Filled → Filled
ahead n paid xs r = record { entries = n + r.entries; tries = paid + r.tries; place = r.place; list = xs ++ r.list }

ahead-ahead : (n paid m more : ℕ) (xs ys : List ℕ) (r : Filled) → ahead n paid xs (ahead m more ys r) ≡ ahead (n + m) (paid + more) (xs ++ ys) r
ahead-ahead n paid m more xs ys r =
    let p : n + (m + r.entries) ≡ n + m + r.entries = omega arith in
    let q : paid + (more + r.tries) ≡ paid + more + r.tries = omega arith in
    let s : xs ++ (ys ++ r.list) ≡ (xs ++ ys) ++ r.list = sym (append_assoc xs ys r.list) in
    λ i. record { entries = p i; tries = q i; place = r.place; list = s i }

wrote-ahead : (a c : ℕ) (r : Filled) → wrote a c r ≡ ahead 1 c (a ∷ []) r
wrote-ahead a c r =
    let p : suc r.entries ≡ 1 + r.entries = omega arith in
    λ i. record { entries = p i; tries = c + r.tries; place = r.place; list = a ∷ r.list }

-- what r wrote, and then what g gives
abbrev pub followed : Filled → Filled → Filled
followed r g = ahead r.entries r.tries (take r.entries r.list) g

pub wrote-followed : (a c : ℕ) (r g : Filled) → wrote a c (followed r g) ≡ followed (wrote a c r) g
wrote-followed a c r g =
    let p : suc (r.entries + g.entries) ≡ suc r.entries + g.entries = omega arith in
    let q : c + (r.tries + g.tries) ≡ c + r.tries + g.tries = omega arith in
    λ i. record { entries = p i; tries = q i; place = g.place; list = a ∷ take r.entries r.list ++ g.list }

-- what r wrote, written over the list l
abbrev over : Filled → List ℕ → Filled
over r l = record { entries = r.entries; tries = r.tries; place = r.place; list = take r.entries r.list ++ drop r.entries l }

module _ (w : Walk) where
  -- the fill f is what stands in the list l at place t, with so many tries paid and n entries written, and what the rest gives
  pub record Going (f : Filled) (quota : ℕ) (l : List ℕ) (t paid n : ℕ) : Type 0 where
    pub room : n ≤ length l
    pub left : paid ≤ quota
    pub is : f ≡ ahead n paid (take n l) (fill_by w t (quota - paid) (drop n l))

  pub starts : (t quota : ℕ) (l : List ℕ) → Going (fill_by w t quota l) quota l t 0 0
  starts t quota l = record { room = omega arith; left = omega arith; is = simp (zero-add, sub-zero) }

  pub writes : (t quota x : ℕ) (xs : List ℕ) → (t ≡ w.count → ⊥) → w.least ≤ quota
      → fill_by w t quota (x ∷ xs) ≡ wrote (w.address t) (w.cost t) (fill_by w (w.next t) (quota - w.cost t) xs)
  unfolding fill_by
  writes t quota x xs h k = rw (ne_eqb t w.count h, le-ltb quota w.least k)

  pub stops : (t quota : ℕ) (xs : List ℕ) → (eqb t w.count || ltb quota w.least) ≡ true → fill_by w t quota xs ≡ stopped t xs
  unfolding fill_by
  stops t quota [] e = refl
  stops t quota (x ∷ xs) e = rw e

  -- a fill that can go on writes
  pub fill-some : (t quota : ℕ) (l : List ℕ) → 0 < length l → (t ≡ w.count → ⊥) → w.least ≤ quota → 0 < (fill_by w t quota l).entries
  fill-some t quota [] some h k = absurd (omega arith)
  fill-some t quota (x ∷ l) some h k = rw (writes t quota x l h k) (omega arith)

  -- what every step to the next place keeps, a fill keeps
  pub fill-keeps : (P : ℕ → Type 0) → ((t : ℕ) → (t ≡ w.count → ⊥) → P t → P (w.next t))
      → (t quota : ℕ) (l : List ℕ) → P t → P (fill_by w t quota l).place
  unfolding fill_by
  fill-keeps P on t quota [] p = p
  fill-keeps P on t quota (x ∷ l) p =
      go (fill_by w (w.next t) (quota - w.cost t) l) (λ h. fill-keeps P on (w.next t) (quota - w.cost t) l (on t h p)) (eqb t w.count) refl (ltb quota w.least)
    where
      go : (r : Filled) → ((t ≡ w.count → ⊥) → P r.place) → (b : Bool) → eqb t w.count ≡ b → (c : Bool)
          → P (cond (b || c) (stopped t (x ∷ l)) (wrote (w.address t) (w.cost t) r)).place
      go r ih true e c = p
      go r ih false e true = p
      go r ih false e false = ih (eqb-false t w.count e)

  -- what a fill writes rests on how long its list is, and on nothing in it
  pub fill-over : (t quota : ℕ) (k l : List ℕ) → length k ≡ length l → fill_by w t quota l ≡ over (fill_by w t quota k) l
  unfolding fill_by
  fill-over t quota [] [] e = refl
  fill-over t quota [] (y ∷ l) e = absurd (omega arith)
  fill-over t quota (x ∷ k) [] e = absurd (omega arith)
  fill-over t quota (x ∷ k) (y ∷ l) e =
      go (fill_by w (w.next t) (quota - w.cost t) k) (fill-over (w.next t) (quota - w.cost t) k l (omega arith)) (eqb t w.count || ltb quota w.least)
    where
      go : (r : Filled) → fill_by w (w.next t) (quota - w.cost t) l ≡ over r l
          → (b : Bool) → cond b (stopped t (y ∷ l)) (wrote (w.address t) (w.cost t) (fill_by w (w.next t) (quota - w.cost t) l))
          ≡ over (cond b (stopped t (x ∷ k)) (wrote (w.address t) (w.cost t) r)) (y ∷ l)
      go r ih true = refl
      go r ih false = ap (wrote (w.address t) (w.cost t)) ih

  -- what r gives, and then the fill of the entries that it left and of l
  and_then : ℕ → Filled → List ℕ → Filled
  and_then quota r l = followed r (fill_by w r.place (quota - r.tries) (drop r.entries r.list ++ l))

  wrote_then : (quota a c : ℕ) (r : Filled) (l : List ℕ) → wrote a c (and_then (quota - c) r l) ≡ and_then quota (wrote a c r) l
  unfolding and_then
  wrote_then quota a c r l =
      wrote-followed a c r (fill_by w r.place (quota - c - r.tries) (drop r.entries r.list ++ l))
      ∙ rw (sub-add-eq quota c r.tries)

  -- a fill of two lists is the fill of the first, and then that
  fill-append : (t quota : ℕ) (k l : List ℕ) → fill_by w t quota (k ++ l) ≡ and_then quota (fill_by w t quota k) l
  unfolding fill_by and_then
  fill-append t quota [] l = simp (zero-add, sub-zero)
  fill-append t quota (x ∷ k) l = go (fill-append (w.next t) (quota - w.cost t) k l) (eqb t w.count || ltb quota w.least) refl
    where
      r : Filled
      r = fill_by w (w.next t) (quota - w.cost t) k

      go : fill_by w (w.next t) (quota - w.cost t) (k ++ l) ≡ and_then (quota - w.cost t) r l
          → (b : Bool) → (eqb t w.count || ltb quota w.least) ≡ b
          → fill_by w t quota (x ∷ k ++ l) ≡ and_then quota (cond b (stopped t (x ∷ k)) (wrote (w.address t) (w.cost t) r)) l
      go ih true e = simp (zero-add, sub-zero)
      go ih false e = rw e (ap (wrote (w.address t) (w.cost t)) ih ∙ wrote_then quota (w.address t) (w.cost t) r l)

  module _ {f : Filled} {quota : ℕ} {l : List ℕ} {t paid n : ℕ} where
    -- one turn: the address is written, then the step is paid for
    pub goes_on : Going f quota l t paid n → n < length l → (t ≡ w.count → ⊥) → w.least ≤ quota - paid → w.cost t ≤ w.least
        → Going f quota (set l n (w.address t)) (w.next t) (paid + w.cost t) (n + 1)
    goes_on g h e k c = record {
      room = rw (length-set, add-one) h;
      left = omega (arith, g.left);
      is =
          g.is
          ∙ ap (λ (z : List ℕ). ahead n paid (take n l) (fill_by w t (quota - paid) z)) (drop-cons l n 0 h)
          ∙ ap (ahead n paid (take n l)) (writes t (quota - paid) (get_or l n 0) (drop (suc n) l) e k)
          ∙ ap (ahead n paid (take n l)) (wrote-ahead (w.address t) (w.cost t) _)
          ∙ ahead-ahead n paid 1 (w.cost t) (take n l) (w.address t ∷ []) _
          ∙ rw (
            add-one,
            take-suc-set l n (w.address t) h,
            drop-set-lt (suc n) l n (w.address t) (le_refl (suc n)),
            sub-add-eq quota paid (w.cost t),
          );
    }

    -- what g wrote at the front of ys, and then the fill of the rest of ys from place u
    pub goes_by : Going f quota l t paid n → (g : Filled) (u : ℕ) (ys : List ℕ)
        → fill_by w t (quota - paid) (drop n l) ≡ followed g (fill_by w u (quota - paid - g.tries) (drop g.entries ys))
        → take g.entries ys ≡ take g.entries g.list → g.entries ≤ length ys → g.tries ≤ quota - paid
        → Going f quota (take n l ++ ys) u (paid + g.tries) (n + g.entries)
    goes_by v g u ys e front inside cheap =
        let before : length (take n l) ≡ n = length-take-le n l v.room in
        let first : take (n + g.entries) (take n l ++ ys) ≡ take n l ++ take g.entries g.list =
        ap (λ (m : ℕ). take (m + g.entries) (take n l ++ ys)) (sym before)
        ∙ take-append-add (take n l) ys g.entries
        ∙ ap (λ (z : List ℕ). take n l ++ z) front in
        let rest : drop (n + g.entries) (take n l ++ ys) ≡ drop g.entries ys =
        ap (λ (m : ℕ). drop (m + g.entries) (take n l ++ ys)) (sym before)
        ∙ drop-append-add (take n l) ys g.entries in
        record {
          room = omega (arith, before, length-append (take n l) ys);
          left = omega (arith, v.left);
          is =
              v.is
              ∙ ap (ahead n paid (take n l)) e
              ∙ ahead-ahead n paid g.entries g.tries (take n l) (take g.entries g.list) _
              ∙ rw (first, rest, sub-add-eq quota paid g.tries);
        }

    -- the fill g of the next entries, so many, and not of those after them
    pub goes-far : Going f quota l t paid n → (room : ℕ) {g : Filled} → fill_by w t (quota - paid) (take room (drop n l)) ≡ g
        → g.entries ≤ length g.list → g.tries ≤ quota - paid
        → Going f quota (take n l ++ (g.list ++ drop room (drop n l))) g.place (paid + g.tries) (n + g.entries)
    unfolding and_then
    goes-far v room {g} e inside cheap =
        let rest : List ℕ = drop room (drop n l) in
        goes_by v g g.place (g.list ++ rest)
        (ap (fill_by w t (quota - paid)) (sym (take-append-drop room (drop n l)))
        ∙ fill-append t (quota - paid) (take room (drop n l)) rest
        ∙ ap (λ (r : Filled). and_then (quota - paid) r rest) e
        ∙ rw (drop-append-le g.entries g.list rest inside))
        (take-append-le g.entries g.list rest inside)
        (omega (arith, length-append g.list rest))
        cheap

    -- nothing more is written
    ends : Going f quota l t paid n → fill_by w t (quota - paid) (drop n l) ≡ stopped t (drop n l)
        → f ≡ record { entries = n; tries = paid; place = t; list = l }
    ends g s =
        g.is
        ∙ ap (ahead n paid (take n l)) s
        ∙ (λ i. record { entries = add-zero n i; tries = add-zero paid i; place = t; list = take-append-drop n l i })

    pub ends-full : Going f quota l t paid n → length l ≤ n → f ≡ record { entries = n; tries = paid; place = t; list = l }
    unfolding fill_by
    ends-full g h = ends g (rw (drop_of_length-le l h))

    pub ends-place : Going f quota l t paid n → t ≡ w.count → f ≡ record { entries = n; tries = paid; place = t; list = l }
    ends-place g h = ends g (stops t (quota - paid) (drop n l) (rw (eq-eqb t w.count h)))

    pub ends-quota : Going f quota l t paid n → quota - paid < w.least → f ≡ record { entries = n; tries = paid; place = t; list = l }
    ends-quota g h =
        ends g (stops t (quota - paid) (drop n l) (rw (lt-ltb (quota - paid) w.least h) (or-true (eqb t w.count))))
