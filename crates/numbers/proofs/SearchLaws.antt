-- Laws of counting and listing the numbers that pass a test, and of the first one that does. Assumes nothing.
use Prim.Native.Nat.{ℕ, zero, suc, ◌+◌, ◌≤◌, ◌<◌}
use mathlib.Core.Path.{◌≡◌, refl, sym, ap, ◌∙◌}
use mathlib.Core.Bool.{Bool, true, false, cond, true≢false}
use mathlib.Core.List.{List, [], ◌∷◌, ◌++◌}
use mathlib.Core.Logic.{◌⊎◌, inl, inr}
use native.Mathlib.Nat.{
  add-zero,
  add-suc,
  suc-add,
  le_refl,
  le_antisymm,
  not-suc-le-zero,
  le_of_suc-le-suc,
  eq-or-lt_of_le,
}
use native.Mathlib.Decide.{le_ind}
use native.Mathlib.Omega.{arith}
use lib.Dec.{ltb}
use borrow.Author.Tests.{le-ltb, lt-ltb}
use lib.ListN.{length, get_or}
use Rattle.std.specs.Prelude.{Option, Some, None}
use Rattle.numbers.specs.Search.{tally, passing, head_or, sum}
use Rattle.numbers.specs.FirstHit.{first_of}

-- What the search for the first of the n numbers from a on that passes has found.
pub data First (f : ℕ → Bool) (a n : ℕ) : Option ℕ → Type 0 where
  first : (t : ℕ) → a ≤ t → t < a + n → f t ≡ true → ((j : ℕ) → a ≤ j → f j ≡ true → t ≤ j) → First f a n (Some t)
  missing : ((j : ℕ) → a ≤ j → j < a + n → f j ≡ true → ⊥) → First f a n None

module _ (f : ℕ → Bool) where
  -- ---- one number more
  pub tally-none : tally f 0 ≡ 0
  unfolding tally
  tally-none = refl

  pub tally-next : (i : ℕ) → tally f (suc i) ≡ tally f i + cond (f i) 1 0
  unfolding tally
  tally-next i = go (f i)
    where
      go : (b : Bool) → cond b (suc (tally f i)) (tally f i) ≡ tally f i + cond b 1 0
      go true = omega arith
      go false = omega arith

  pub tally-yes : (i : ℕ) → f i ≡ true → tally f (suc i) ≡ suc (tally f i)
  unfolding tally
  tally-yes i e = rw e

  pub tally-no : (i : ℕ) → f i ≡ false → tally f (suc i) ≡ tally f i
  unfolding tally
  tally-no i e = rw e

  pub tally-mono : (i j : ℕ) → i ≤ j → tally f i ≤ tally f j
  tally-mono i j h =
      le_ind (λ (m : ℕ). tally f i ≤ tally f m) (le_refl (tally f i)) (λ m l e. omega (arith, e, tally-next m)) j h

  pub tally-le : (i : ℕ) → tally f i ≤ i
  tally-le zero = omega (arith, tally-none)
  tally-le (suc i) = omega (arith, tally-le i, tally-next i, at_most_one (f i))
    where
      at_most_one : (b : Bool) → cond b 1 0 ≤ 1
      at_most_one true = omega arith
      at_most_one false = omega arith

  pub passing-yes : (a n : ℕ) → f a ≡ true → passing f a (suc n) ≡ a ∷ passing f (suc a) n
  unfolding passing
  passing-yes a n e = rw e

  pub passing-no : (a n : ℕ) → f a ≡ false → passing f a (suc n) ≡ passing f (suc a) n
  unfolding passing
  passing-no a n e = rw e

  pub passing-none : (a : ℕ) → passing f a 0 ≡ []
  unfolding passing
  passing-none a = refl

  -- ---- the list holds the numbers that pass, in order

  -- e is the number of the range from a that stands at place x of the list
  pub record Nth (a n x e : ℕ) : Type 0 where
    pub from : a ≤ e
    pub below : e < a + n
    pub passes : f e ≡ true
    pub nth : tally f e ≡ tally f a + x

  pub listed : (n a x : ℕ) → x < length (passing f a n) → Nth a n x (get_or (passing f a n) x 0)
  listed zero a x h = absurd (not-suc-le-zero (rw passing-none at h))
  listed (suc n) a x h = go (λ y k. listed n (suc a) y k) (f a) refl x h
    where
      more : (b : Bool) → f a ≡ b → (y : ℕ) → tally f (suc a) + y ≡ tally f a + cond b (suc y) y
      more true e y = rw (tally-yes a e) (omega arith)
      more false e y = rw (tally-no a e)

      lift : (b : Bool) → f a ≡ b → (y e : ℕ) → Nth (suc a) n y e → Nth a (suc n) (cond b (suc y) y) e
      lift b q y e r = record {
        from = omega (arith, r.from);
        below = omega (arith, r.below);
        passes = r.passes;
        nth = r.nth ∙ more b q y;
      }

      go : ((y : ℕ) → y < length (passing f (suc a) n) → Nth (suc a) n y (get_or (passing f (suc a) n) y 0))
          → (b : Bool) → f a ≡ b → (y : ℕ) → y < length (passing f a (suc n)) → Nth a (suc n) y (get_or (passing f a (suc n)) y 0)
      go ih true e zero k =
          rw (passing-yes a n e) (record { from = le_refl a; below = omega arith; passes = e; nth = sym (add-zero (tally f a)) })
      go ih true e (suc y) k =
          rw (passing-yes a n e) (lift true e y _ (ih y (le_of_suc-le-suc (rw (passing-yes a n e) at k))))
      go ih false e y k = rw (passing-no a n e) (lift false e y _ (ih y (rw (passing-no a n e) at k)))

  -- every number of the range that passes is in the list
  pub found : (n a e : ℕ) → a ≤ e → e < a + n → f e ≡ true → (x : ℕ) × (x < length (passing f a n)) × (get_or (passing f a n) x 0 ≡ e)
  found zero a e h k q = absurd (omega arith)
  found (suc n) a e h k q = go (λ h'. found n (suc a) e h' (omega arith) q) (f a) refl (eq-or-lt_of_le h)
    where
      go : (suc a ≤ e → (x : ℕ) × (x < length (passing f (suc a) n)) × (get_or (passing f (suc a) n) x 0 ≡ e))
          → (b : Bool) → f a ≡ b → (a ≡ e) ⊎ (a < e) → (x : ℕ) × (x < length (passing f a (suc n))) × (get_or (passing f a (suc n)) x 0 ≡ e)
      go ih true p (inl s) = rw (passing-yes a n p) (zero, omega arith, s)
      go ih true p (inr s) = let r = ih s in rw (passing-yes a n p) (suc r.0, omega (arith, r.1), r.2)
      go ih false p (inl s) = absurd (true≢false (sym q ∙ ap f (sym s) ∙ p))
      go ih false p (inr s) = rw (passing-no a n p) (ih s)

  -- one that stands later is larger
  pub passing-rises : (n a x y : ℕ) → x < y → y < length (passing f a n) → get_or (passing f a n) x 0 < get_or (passing f a n) y 0
  passing-rises n a x y h l =
      let p = listed n a x (omega arith) in
      let q = listed n a y l in
      let never : get_or (passing f a n) y 0 ≤ get_or (passing f a n) x 0 → ⊥ = λ k. omega (arith, tally-mono _ _ k, p.nth, q.nth) in
      omega arith

  pub passing-length : (n a : ℕ) → tally f a + length (passing f a n) ≡ tally f (a + n)
  passing-length zero a = rw (passing-none a, add-zero (tally f a), add-zero a)
  passing-length (suc n) a = go (passing-length n (suc a)) (f a) refl
    where
      go : tally f (suc a) + length (passing f (suc a) n) ≡ tally f (suc a + n) → (b : Bool) → f a ≡ b → tally f a + length (passing f a (suc n)) ≡ tally f (a + suc n)
      go ih true p = rw (passing-yes a n p, add-suc a n, ← suc-add a n, ← ih, tally-yes a p) (omega arith)
      go ih false p = rw (passing-no a n p, add-suc a n, ← suc-add a n, ← ih, tally-no a p)

  -- ---- the first one that passes

  -- one from a on that passes is not a, if a fails
  later : (a j : ℕ) → f a ≡ false → a ≤ j → f j ≡ true → suc a ≤ j
  later a j e h q = go (eq-or-lt_of_le h)
    where
      go : (a ≡ j) ⊎ (a < j) → suc a ≤ j
      go (inl s) = absurd (true≢false (sym q ∙ ap f (sym s) ∙ e))
      go (inr s) = s

  skip : (n a : ℕ) → f a ≡ false → {r : Option ℕ} → First f (suc a) n r → First f a (suc n) r
  skip n a e (first t h l p least) = first t (omega arith) (omega arith) p (λ j g q. least j (later a j e g q) q)
  skip n a e (missing none) = missing (λ j h l q. none j (later a j e h q) (omega arith) q)

  -- the search finds what it says
  pub first_found : (n a : ℕ) → First f a n (first_of (passing f a n))
  unfolding first_of
  first_found zero a = rw (passing-none a) (missing (λ j h l q. omega arith))
  first_found (suc n) a = go (first_found n (suc a)) (f a) refl
    where
      go : First f (suc a) n (first_of (passing f (suc a) n)) → (b : Bool) → f a ≡ b → First f a (suc n) (first_of (passing f a (suc n)))
      go w true e = rw (passing-yes a n e) (first a (omega arith) (omega arith) e (λ j h q. h))
      go w false e = rw (passing-no a n e) (skip n a e w)

  -- and there is one answer only
  pub first-same : (a n : ℕ) {r w : Option ℕ} → First f a n r → First f a n w → r ≡ w
  first-same a n (first t h l p least) (first u h' l' p' least') = ap Some (le_antisymm (least u h' p') (least' t h p))
  first-same a n (first t h l p least) (missing none) = absurd (none t h l p)
  first-same a n (missing none) (first t h l p least) = absurd (none t h l p)
  first-same a n (missing none) (missing none') = refl

  pub first-is : (n a : ℕ) {r : Option ℕ} → First f a n r → r ≡ first_of (passing f a n)
  first-is n a w = first-same a n w (first_found n a)

  -- what is found is in the range
  pub first_below : (a n : ℕ) {t : ℕ} → First f a n (Some t) → t < a + n
  first_below a n (first t h l p least) = l

-- ---- the first of a list, or another number
head_at : (d t : ℕ) (l : List ℕ) → Some t ≡ first_of l → head_or d l ≡ t
unfolding head_or first_of
head_at d t [] e = absurd (let z : ◌≡◌ {A = ℕ} 0 1 = cc in omega arith)
head_at d t (x ∷ l) e = cc

head-none : (d : ℕ) (l : List ℕ) → None ≡ first_of l → head_or d l ≡ d
unfolding head_or first_of
head-none d [] e = refl
head-none d (x ∷ l) e = absurd (let z : ◌≡◌ {A = ℕ} 0 1 = cc in omega arith)

module _ (f : ℕ → Bool) (d a n : ℕ) where
  pub head_first : {t : ℕ} → First f a n (Some t) → head_or d (passing f a n) ≡ t
  head_first {t} w = head_at d t (passing f a n) (first-is f n a w)

  pub head-missing : First f a n None → head_or d (passing f a n) ≡ d
  head-missing w = head-none d (passing f a n) (first-is f n a w)

-- the first that passes of numbers up to N, or d, which is no larger
pub head-le : (f : ℕ → Bool) (d N n a : ℕ) → d ≤ N → a + n ≤ suc N → head_or d (passing f a n) ≤ N
unfolding head_or
head-le f d N zero a h l = rw (passing-none f a) h
head-le f d N (suc n) a h l = go (head-le f d N n (suc a) h (omega arith)) (f a) refl
  where
    go : head_or d (passing f (suc a) n) ≤ N → (b : Bool) → f a ≡ b → head_or d (passing f a (suc n)) ≤ N
    go ih true e = rw (passing-yes f a n e) (omega arith)
    go ih false e = rw (passing-no f a n e) ih

-- the first that passes from a on is a + m where none before it does, unless that is N or past it
pub head-skip : (f : ℕ → Bool) (N m n a : ℕ) → a + n ≡ N → ((j : ℕ) → a ≤ j → j < a + m → j < N → f j ≡ false) → (a + m < N → f (a + m) ≡ true)
    → head_or N (passing f a n) ≡ cond (ltb (a + m) N) (a + m) N
unfolding head_or
head-skip f N m zero a e before at-m = rw (passing-none, le-ltb (a + m) N (omega arith))
head-skip f N zero (suc n) a e before at-m =
    let p : f a ≡ true = ap f (sym (add-zero a)) ∙ at-m (omega arith) in
    rw (passing-yes f a n p, lt-ltb (a + zero) N (omega arith)) (sym (add-zero a))
head-skip f N (suc m) (suc n) a e before at-m =
    let p : suc a + m ≡ a + suc m = omega arith in
    let r : head_or N (passing f (suc a) n) ≡ cond (ltb (suc a + m) N) (suc a + m) N =
    head-skip f N m n (suc a) (omega arith) (λ j h k l. before j (omega arith) (omega arith) l) (λ h. ap f p ∙ at-m (omega arith)) in
    rw (passing-no f a n (before a (le_refl a) (omega arith) (omega arith)), ← p) r

-- ---- tests that agree on the range
module _ (f g : ℕ → Bool) where
  pub tally-same : (n : ℕ) → ((i : ℕ) → i < n → f i ≡ g i) → tally f n ≡ tally g n
  tally-same zero h = tally-none f ∙ sym (tally-none g)
  tally-same (suc n) h =
      tally-next f n
      ∙ (let e = h n (omega arith) in let r = tally-same n (λ i l. h i (omega arith)) in cc)
      ∙ sym (tally-next g n)

  pub passing-same : (n a : ℕ) → ((i : ℕ) → a ≤ i → i < a + n → f i ≡ g i) → passing f a n ≡ passing g a n
  passing-same zero a h = passing-none f a ∙ sym (passing-none g a)
  passing-same (suc n) a h = go (h a (le_refl a) (omega arith)) (passing-same n (suc a) (λ i l k. h i (omega arith) (omega arith))) (f a) refl
    where
      go : f a ≡ g a → passing f (suc a) n ≡ passing g (suc a) n → (b : Bool) → f a ≡ b → passing f a (suc n) ≡ passing g a (suc n)
      go e ih true p = passing-yes f a n p ∙ ap (λ (l : List ℕ). a ∷ l) ih ∙ sym (passing-yes g a n (sym e ∙ p))
      go e ih false p = passing-no f a n p ∙ ih ∙ sym (passing-no g a n (sym e ∙ p))

-- ---- sums
pub sum-append : (l k : List ℕ) → sum (l ++ k) ≡ sum l + sum k
unfolding sum
sum-append [] k = omega arith
sum-append (x ∷ l) k = omega (arith, sum-append l k)
