-- Lists of questions, and numbers that a question found in a range.
use Prim.Native.Nat.{ℕ, ◌≤◌, ◌<◌, zero-le}
use mathlib.Core.Path.{◌≡◌, refl, sym, ap, ◌∙◌}
use mathlib.Core.Bool.{Bool, true, false, not, ◌&&◌, true≢false}
use mathlib.Core.List.{List, [], ◌∷◌, ◌++◌, append-nil}
use native.Mathlib.Nat.{le_refl, not-suc-le-zero}
use native.Mathlib.Omega.{arith}
use lib.Dec.{leb, ltb, eqb}
use lib.IntN.{ℤ, pos, negsuc, nat_abs}
use lib.Signed.{le_z}
use borrow.Author.Tests.{ltb-true, leb-true, le-leb, lt-ltb, eqb-true, eqb-false, not-true}
use Rattle.numbers.proofs.Tests.{both_true}
use Rattle.model.specs.Ownership.{nat}
use Rattle.model.specs.Questions.{Question, first_no, AllYes, between, is_below, most, least}

-- ---- lists of questions

-- no question has the number 0, which stands for no refusal
abbrev pub numbered : List Question → Bool
numbered [] = true
numbered (q ∷ qs) = ltb 0 q.number && numbered qs

pub all_yes : (qs : List Question) → numbered qs ≡ true → first_no qs ≡ 0 → AllYes qs
unfolding first_no
all_yes [] n e = tt
all_yes (q ∷ qs) n e = go (all_yes qs (both_true (ltb 0 q.number) (numbered qs) n).1) q.holds refl
  where
    go : (first_no qs ≡ 0 → AllYes qs) → (b : Bool) → q.holds ≡ b → (q.holds ≡ true) × AllYes qs
    go ih true p = (p, ih (rw p at e))
    go ih false p =
        let z : q.number ≡ 0 = rw p at e in
        absurd (omega (arith, ltb-true 0 q.number (both_true (ltb 0 q.number) (numbered qs) n).0))

-- where all of xs hold, ys decide
pub asks-on : (xs ys : List Question) → AllYes xs → first_no (xs ++ ys) ≡ first_no ys
unfolding first_no
asks-on [] ys h = refl
asks-on (x ∷ xs) ys h = rw h.0 (asks-on xs ys h.1)

pub none-no : (qs : List Question) → AllYes qs → first_no qs ≡ 0
unfolding first_no
none-no [] h = refl
none-no (q ∷ qs) h = rw h.0 (none-no qs h.1)

-- where one of xs does not hold, it decides
pub stops : (xs ys : List Question) → (first_no xs ≡ 0 → ⊥) → first_no (xs ++ ys) ≡ first_no xs
unfolding first_no
stops [] ys f = absurd (f refl)
stops (x ∷ xs) ys f = go (stops xs ys) x.holds refl
  where
    go : ((first_no xs ≡ 0 → ⊥) → first_no (xs ++ ys) ≡ first_no xs) → (b : Bool) → x.holds ≡ b
        → first_no ((x ∷ xs) ++ ys) ≡ first_no (x ∷ xs)
    go ih true p = rw p (ih (λ e. f (rw p e)))
    go ih false p = rw p

-- questions that begin alike, and go on alike where the first ones are answered yes
pub asks-alike : (xs ys us vs : List Question) → numbered xs ≡ true → numbered ys ≡ true → first_no xs ≡ first_no ys
    → (first_no ys ≡ 0 → first_no us ≡ first_no vs) → first_no (xs ++ us) ≡ first_no (ys ++ vs)
asks-alike xs ys us vs n m e f = go (eqb (first_no ys) 0) refl
  where
    go : (b : Bool) → eqb (first_no ys) 0 ≡ b → first_no (xs ++ us) ≡ first_no (ys ++ vs)
    go true p =
        let z = eqb-true (first_no ys) 0 p in
        asks-on xs us (all_yes xs n (e ∙ z)) ∙ f z ∙ sym (asks-on ys vs (all_yes ys m z))
    go false p = let no = eqb-false (first_no ys) 0 p in stops xs us (λ z. no (sym e ∙ z)) ∙ e ∙ sym (stops ys vs no)

-- where those after them are answered yes, the first ones decide
pub asks-no-more : (xs us : List Question) → numbered xs ≡ true → (first_no xs ≡ 0 → first_no us ≡ 0) → first_no (xs ++ us) ≡ first_no xs
unfolding first_no
asks-no-more xs us n f = asks-alike xs xs us [] n n refl f ∙ ap first_no (append-nil xs)

-- a number that no question of a list has is not its refusal
abbrev pub lacks : ℕ → List Question → Bool
lacks k [] = true
lacks k (q ∷ qs) = not (eqb q.number k) && lacks k qs

pub never : (k : ℕ) (qs : List Question) → lacks k qs ≡ true → first_no qs ≡ k → k ≡ 0
unfolding first_no
never k [] h e = sym e
never k (q ∷ qs) h e = go (never k qs (both_true (not (eqb q.number k)) (lacks k qs) h).1) q.holds refl
  where
    go : (first_no qs ≡ k → k ≡ 0) → (b : Bool) → q.holds ≡ b → k ≡ 0
    go ih true p = ih (rw p at e)
    go ih false p = absurd (eqb-false q.number k (not-true (eqb q.number k) (both_true (not (eqb q.number k)) (lacks k qs) h).0) (rw p at e))

-- so where it is the first no of more questions, the list passed
pub front-passed : (k : ℕ) (xs ys : List Question) → lacks k xs ≡ true → first_no (xs ++ ys) ≡ k → first_no xs ≡ 0
front-passed k xs ys h e = go (eqb (first_no xs) 0) refl
  where
    go : (b : Bool) → eqb (first_no xs) 0 ≡ b → first_no xs ≡ 0
    go true p = eqb-true (first_no xs) 0 p
    go false p =
        let is-k : first_no xs ≡ k = sym (stops xs ys (eqb-false (first_no xs) 0 p)) ∙ e in
        is-k ∙ never k xs h is-k

pub both_yes : (xs ys : List Question) → numbered xs ≡ true → first_no (xs ++ ys) ≡ 0 → (first_no xs ≡ 0) × (first_no ys ≡ 0)
both_yes xs ys n e = go (eqb (first_no xs) 0) refl
  where
    go : (b : Bool) → eqb (first_no xs) 0 ≡ b → (first_no xs ≡ 0) × (first_no ys ≡ 0)
    go true p =
        let z : first_no xs ≡ 0 = eqb-true (first_no xs) 0 p in
        (z, sym (asks-on xs ys (all_yes xs n z)) ∙ e)
    go false p = let f = eqb-false (first_no xs) 0 p in absurd (f (sym (stops xs ys f) ∙ e))

-- ---- a number in a range

-- a number is no larger than its size
pub natural-le : (z : ℤ) → nat z ≤ nat_abs z
unfolding nat
natural-le (pos n) = le_refl n
natural-le (negsuc n) = zero-le

-- an integer that is a natural number
pub record Natural (z : ℤ) (low high : ℕ) : Type 0 where
  pub whole : z ≡ pos (nat z)
  pub from : low ≤ nat z
  pub upto : nat z ≤ high

pub size-upto : {z : ℤ} {low high : ℕ} → Natural z low high → nat_abs z ≤ high
size-upto w = omega (arith, w.upto, ap nat_abs w.whole)

pub between_is : (low high : ℕ) (z : ℤ) → between (pos low) (pos high) z ≡ true → Natural z low high
unfolding between nat
between_is low high (pos n) e =
    record {
      whole = refl;
      from = leb-true low n (both_true (leb low n) (leb n high) e).0;
      upto = leb-true n high (both_true (leb low n) (leb n high) e).1;
    }
between_is low high (negsuc n) e = absurd (true≢false (sym e))

-- between the two ends of the range of a triplet's numbers
pub size_is : (z : ℤ) → between least most z ≡ true → nat_abs z ≤ 2147483647
unfolding between
size_is (pos n) e = leb-true n 2147483647 e
size_is (negsuc n) e = omega (arith, leb-true n 2147483646 (both_true (leb n 2147483646) true e).0)

-- an integer from 0 to n - 1
pub record Below (z : ℤ) (n : ℕ) : Type 0 where
  pub whole : z ≡ pos (nat z)
  pub below : nat z < n

pub below-is : (z n : ℤ) → is_below n z ≡ true → Below z (nat n)
unfolding nat
below-is (pos c) (pos n) e = record { whole = refl; below = ltb-true c n (both_true (leb 0 c) (ltb c n) e).1 }
below-is (pos c) (negsuc n) e = absurd (true≢false (sym (both_true (leb 0 c) false e).1))
below-is (negsuc c) n e = absurd (true≢false (sym e))

-- an integer that is not below 0
pub not-below : (z : ℤ) → le_z (pos 0) z ≡ true → z ≡ pos (nat z)
unfolding nat
not-below (pos n) e = refl
not-below (negsuc n) e = absurd (true≢false (sym e))

pub is_below_lem : (c : ℕ) (n : ℤ) → c < nat n → is_below n (pos c) ≡ true
unfolding nat
is_below_lem c (pos n) h = rw (le-leb 0 c zero-le, lt-ltb c n h)
is_below_lem c (negsuc n) h = absurd (not-suc-le-zero h)
