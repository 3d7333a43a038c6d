-- How long the lines are, and a processor's line as its front, its addresses and its newline.
use Prim.Native.Nat.{ℕ, ◌+◌, ◌^◌, ◌≤◌, ◌<◌}
use mathlib.Core.Path.{◌≡◌, refl, sym, ◌∙◌}
use mathlib.Core.List.{List, [], ◌∷◌, ◌++◌, map, append_assoc, append-nil}
use native.Mathlib.Numerals.{add-one}
use native.Mathlib.Omega.{arith}
use lib.IntN.{pos}
use lib.ListN.{length, get_or, take, length-append}
use lib.Seq.{take-suc}
use Rattle.model.specs.Sheets.{digits_of, print_line}
use Rattle.sheet.proofs.DigitLaws.{digits-length}
use Rattle.print.specs.Texts.{section_line, refusal_line, sheet_line, line_front, next_numbers, Puts}
use Rattle.print.proofs.PutLaws.{nothing, then}

-- ---- lengths

pub section-length : (j n : ℕ) → length (section_line j n) ≡ length (digits_of j) + length (digits_of n) + 4
section-length j n = simp length-append (omega arith)

pub refusal-length : (j e : ℕ) → length (refusal_line j e) ≡ length (digits_of j) + length (digits_of e) + 6
refusal-length j e = simp length-append (omega arith)

pub sheet-length : (n : ℕ) → length (sheet_line n) ≡ length (digits_of 14) + length (digits_of n) + 4
sheet-length n = simp length-append (omega arith)

pub front_length : (q n t : ℕ) → length (line_front q n t) ≡ length (digits_of q) + length (digits_of n) + length (digits_of t) + 2
front_length q n t = simp length-append (omega arith)

-- a 32-bit number has at most 10 digits, a 64-bit number at most 20
pub word-digits : (a : ℕ) → a < 2 ^ 32 → length (digits_of a) ≤ 10
word-digits a h = digits-length 9 a (omega arith)

pub long-digits : (a : ℕ) → a < 2 ^ 64 → length (digits_of a) ≤ 20
long-digits a h = digits-length 19 a (omega arith)

-- ---- numbers with a blank before each

pub next-append : (l k : List ℕ) → next_numbers (l ++ k) ≡ next_numbers l ++ next_numbers k
unfolding next_numbers
next-append [] k = refl
next-append (a ∷ l) k = rw (next-append l k, append_assoc (digits_of a) (next_numbers l) (next_numbers k))

pub next_last : (l : List ℕ) (a : ℕ) → next_numbers (l ++ a ∷ []) ≡ next_numbers l ++ 32 ∷ digits_of a
unfolding next_numbers
next_last l a = next-append l (a ∷ []) ∙ rw (append-nil (digits_of a))

pub some-numbers : (l : List ℕ) → 0 < length l → 0 < length (next_numbers l)
unfolding next_numbers
some-numbers [] h = absurd (omega arith)
some-numbers (a ∷ l) h = omega arith

pub no_text : (f : ℕ → ℕ) (l : List ℕ) → length l ≡ 0 → next_numbers (map f l) ≡ []
unfolding next_numbers
no_text f [] h = refl
no_text f (a ∷ l) h = absurd (omega arith)

pub no-numbers : (a : List ℕ) → Puts (next_numbers []) a 0 a 0
unfolding next_numbers
no-numbers a = nothing a

pub one_more : (l : List ℕ) (i : ℕ) → i < length l → {a b c : List ℕ} {j k : ℕ} → Puts (next_numbers (take i l)) a 0 b j
    → Puts (32 ∷ digits_of (get_or l i 0)) b j c k → Puts (next_numbers (take (i + 1) l)) a 0 c k
one_more l i h p q = rw (add-one, take-suc l i 0 h, next_last) (then p q)

-- ---- a line

line-from : (a : ℕ) (l : List ℕ) → print_line (pos a ∷ map pos l) ≡ digits_of a ++ (next_numbers l ++ 10 ∷ [])
unfolding next_numbers
line-from a [] = refl
line-from a (b ∷ l) = rw (line-from b l, append_assoc (digits_of b) (next_numbers l) (10 ∷ []))

pub line-is : (q n t : ℕ) (l : List ℕ) → print_line (pos q ∷ pos n ∷ pos t ∷ map pos l) ≡ line_front q n t ++ (next_numbers l ++ 10 ∷ [])
line-is q n t l = rw (line-from t l) (sym (simp append_assoc))
