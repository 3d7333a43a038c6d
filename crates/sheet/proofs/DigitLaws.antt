-- The digits of a number.
use Prim.Native.Nat.{ℕ, zero, suc, ◌+◌, ◌*◌, ◌/◌, ◌%◌, ◌-◌, ◌^◌, ◌≤◌, ◌<◌}
use mathlib.Core.Path.{◌≡◌, refl, ◌∙◌, ap}
use mathlib.Core.Bool.{Bool, true, false}
use mathlib.Core.List.{List, [], ◌∷◌, ◌++◌}
use native.Mathlib.Omega.{arith}
use native.Mathlib.Nat.{pow-succ'}
use lib.Dec.{ltb}
use lib.ListN.{length, length-append}
use borrow.Author.Tests.{ltb-true, ltb-false, lt-ltb, le-ltb}
use Rattle.model.specs.Sheets.{digits_up_to, digits_of}

-- enough is enough
same : (k j n : ℕ) → n < k → n < j → digits_up_to k n ≡ digits_up_to j n
same zero j n p q = absurd (omega arith)
same (suc k) zero n p q = absurd (omega arith)
same (suc k) (suc j) n p q = go (ltb n 10) refl (λ h. same k j (n / 10) (omega arith) (omega arith))
  where
    go : (t : Bool) → ltb n 10 ≡ t → (10 ≤ n → digits_up_to k (n / 10) ≡ digits_up_to j (n / 10))
        → digits_up_to (suc k) n ≡ digits_up_to (suc j) n
    go true e f = rw e
    go false e f = rw (e, f (ltb-false n 10 e))

pub one-digit : (n : ℕ) → n < 10 → digits_of n ≡ (48 + n) ∷ []
unfolding digits_of
one-digit n h = rw (lt-ltb n 10 h)

pub more-digits : (n : ℕ) → 10 ≤ n → digits_of n ≡ digits_of (n / 10) ++ (48 + n % 10) ∷ []
unfolding digits_of
more-digits n h = rw (le-ltb n 10 h, same n (suc (n / 10)) (n / 10) (omega arith) (omega arith))

-- by cases: one digit, or the last digit after those of a tenth
pub by_digits : (P : ℕ → Type 0) → ((n : ℕ) → n < 10 → P n) → ((n : ℕ) → 10 ≤ n → P (n / 10) → P n) → (n : ℕ) → P n
by_digits P one more n = go (suc n) n (omega arith)
  where
    go : (k n : ℕ) → n < k → P n
    go zero n h = absurd (omega arith)
    go (suc k) n h = by (ltb n 10) refl (λ q. go k (n / 10) (omega arith))
      where
        by : (t : Bool) → ltb n 10 ≡ t → (10 ≤ n → P (n / 10)) → P n
        by true e f = one n (ltb-true n 10 e)
        by false e f = more n (ltb-false n 10 e) (f (ltb-false n 10 e))

-- the byte b after the digits of n
pub digit-after : (n b : ℕ) → 0 < n → 48 ≤ b → b ≤ 57 → digits_of (n * 10 + (b - 48)) ≡ digits_of n ++ b ∷ []
digit-after n b h l k =
    let q : (n * 10 + (b - 48)) / 10 ≡ n = omega arith in
    let r : 48 + (n * 10 + (b - 48)) % 10 ≡ b = omega arith in
    more-digits (n * 10 + (b - 48)) (omega arith) ∙ rw (q, r)

-- the first digit is a digit
pub digits-head : (n : ℕ) → (d : ℕ) × (r : List ℕ) × (digits_of n ≡ (48 + d) ∷ r)
digits-head = by_digits (λ n. (d : ℕ) × (r : List ℕ) × (digits_of n ≡ (48 + d) ∷ r)) (λ n h. (n, [], one-digit n h)) tail
  where
    tail : (n : ℕ) → 10 ≤ n → (d : ℕ) × (r : List ℕ) × (digits_of (n / 10) ≡ (48 + d) ∷ r) → (d : ℕ) × (r : List ℕ)
        × (digits_of n ≡ (48 + d) ∷ r)
    tail n h (d, r, e) = (d, r ++ (48 + n % 10) ∷ [], more-digits n h ∙ ap (λ (x : List ℕ). x ++ (48 + n % 10) ∷ []) e)

-- a number below 10, 100, .. has at most 1, 2, .. digits
pub digits-length : (k n : ℕ) → n < 10 ^ suc k → length (digits_of n) ≤ suc k
digits-length zero n h = rw (one-digit n h) (omega arith)
digits-length (suc k) n h = by (ltb n 10) refl (digits-length k (n / 10))
  where
    by : (t : Bool) → ltb n 10 ≡ t → (n / 10 < 10 ^ suc k → length (digits_of (n / 10)) ≤ suc k)
        → length (digits_of n) ≤ suc (suc k)
    by true e f = rw (one-digit n (ltb-true n 10 e)) (omega arith)
    by false e f =
        let less = f (omega (arith, pow-succ' 10 (suc k))) in
        rw (more-digits n (ltb-false n 10 e), length-append) (omega arith)
