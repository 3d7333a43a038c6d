-- Texts put one after the other, and a number's digits.
use Prim.Native.Nat.{ℕ, suc, ◌+◌, ◌/◌, ◌%◌, ◌≤◌, ◌<◌}
use mathlib.Core.Path.{◌≡◌, refl, ◌∙◌, ap}
use mathlib.Core.List.{List, [], ◌∷◌, ◌++◌}
use native.Mathlib.Nat.{add-zero}
use native.Mathlib.Omega.{arith}
use lib.ListN.{length, take, set, length-append}
use lib.Seq.{sets, sets-eq, length-sets, take_at}
use Rattle.model.specs.Sheets.{digits_of}
use Rattle.sheet.proofs.DigitLaws.{one-digit, more-digits, digits-head}
use Rattle.print.specs.Texts.{Puts}

sets-append : (l : List ℕ) (i : ℕ) (s t : List ℕ) → sets l i (s ++ t) ≡ sets (sets l i s) (i + length s) t
sets-append l i [] t = rw add-zero
sets-append l i (a ∷ s) t = sets-append (set l i a) (suc i) s t ∙ ap (λ (k : ℕ). sets (sets (set l i a) (suc i) s) k t) (omega arith)

-- no text
pub nothing : (a : List ℕ) → Puts [] a 0 a 0
nothing a = record { bytes = refl; ends = refl }

-- a text after a text
pub then : {s t a b c : List ℕ} {i j k : ℕ} → Puts s a i b j → Puts t b j c k → Puts (s ++ t) a i c k
then {s} {t} {a} {b} {c} {i} {j} {k} p q =
    record {
      bytes = q.bytes ∙ rw (p.ends, p.bytes) (rw (sets-append a i s t));
      ends = omega (arith, p.ends, q.ends, length-append s t);
    }

pub put-length : {s a b : List ℕ} {i j : ℕ} → Puts s a i b j → length b ≡ length a
put-length {s} {a} {b} {i} {j} p = rw p.bytes (length-sets a i s)

-- what was put at the front stands there
pub in-front : {s a b : List ℕ} {j : ℕ} → Puts s a 0 b j → length s ≤ length a → take j b ≡ s
in-front {s} {a} {b} {j} p h = rw (p.bytes, sets-eq s a 0 (omega arith)) (take_at s _ j (omega (arith, p.ends)))

-- ---- digits

pub some-digits : (n : ℕ) → 0 < length (digits_of n)
some-digits n = let d = digits-head n in rw d.2 (omega arith)

pub length_more : (n : ℕ) → 10 ≤ n → length (digits_of n) ≡ length (digits_of (n / 10)) + 1
length_more n h = ap length (more-digits n h) ∙ length-append (digits_of (n / 10)) _

pub number-one : {a b : List ℕ} {i j : ℕ} (n : ℕ) → n < 10 → Puts ((48 + n) ∷ []) a i b j → Puts (digits_of n) a i b j
number-one n h p = rw (one-digit n h) p

pub number_more : {a b c : List ℕ} {i j k : ℕ} (n : ℕ) → 10 ≤ n → Puts (digits_of (n / 10)) a i b j
    → Puts ((48 + n % 10) ∷ []) b j c k → Puts (digits_of n) a i c k
number_more n h p q = rw (more-digits n h) (then p q)
