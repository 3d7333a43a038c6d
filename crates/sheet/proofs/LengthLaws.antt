-- A well-formed sheet has at most 8,841 bytes: so a refusal has its place among the first 8,841, and whoever reads a longer
-- sheet needs no more of it than the first 8,842.
use Prim.Native.Nat.{ℕ, suc, ◌+◌, ◌*◌, ◌≤◌, ◌<◌}
use mathlib.Core.Path.{◌≡◌, refl}
use mathlib.Core.List.{List, [], ◌∷◌, ◌++◌}
use native.Mathlib.Omega.{arith}
use native.Mathlib.Nat.{mul-suc, mul-le-mul_left}
use lib.IntN.{ℤ, pos, negsuc}
use lib.ListN.{length, take, length-append}
use lib.Seq.{length-take-le, take-take}
use Rattle.model.specs.Sheets.{TemplateLine, Sheet, template_numbers, array_numbers, section_numbers, All, Small, PartOk}
use Rattle.model.specs.Sheets.{print_number, print_line, print_lines, print_part, print_sheet, IsPrint, Begins, Place, Reads}
use Rattle.model.specs.Sheets.{formed, malformed}
use Rattle.sheet.proofs.AllLaws.{each, zip}
use Rattle.sheet.proofs.DigitLaws.{digits-length}

-- ---- a number, a line

number-length : (z : ℤ) → Small z → length (print_number z) ≤ 11
number-length (pos n) h = omega (arith, digits-length 9 n (omega arith))
number-length (negsuc n) h = omega (arith, digits-length 9 (suc n) (omega arith))

-- each number with the byte after it
line-length : (z : ℤ) (l : List ℤ) → All Small (z ∷ l) → length (print_line (z ∷ l)) ≤ 12 * suc (length l)
line-length z [] h = rw length-append (omega (arith, number-length z h.0))
line-length z (y ∷ l) h = rw length-append (omega (arith, number-length z h.0, line-length y l h.1))

-- a name has two digits at most
named-length : (n : ℕ) (z : ℤ) (l : List ℤ) → n < 64 → All Small (z ∷ l)
    → length (print_line (pos n ∷ z ∷ l)) ≤ 3 + 12 * suc (length l)
named-length n z l h k = rw length-append (omega (arith, digits-length 1 n (omega arith), line-length z l k))

-- ---- a part

-- lines of at most m bytes
lines-length : {A : Type 0} (numbers : A → List ℤ) (m : ℕ) (l : List A) → All (λ x. length (print_line (numbers x)) ≤ m) l
    → length (print_lines numbers l) ≤ m * length l
lines-length numbers m [] h = omega arith
lines-length numbers m (x ∷ l) h = rw (length-append, mul-suc) (omega (arith, h.0, lines-length numbers m l h.1))

part_length : {A : Type 0} (numbers : A → List ℤ) (m : ℕ) (l : List A) → length l ≤ 64
    → All (λ x. length (print_line (numbers x)) ≤ m) l → length (print_part numbers l) ≤ 3 + m * 64
part_length numbers m l few h =
    let count = digits-length 1 (length l) (omega arith) in
    let most : m * length l ≤ m * 64 = mul-le-mul_left m few in
    simp length-append (omega (arith, lines-length numbers m l h))

templates-length : (l : List TemplateLine) → PartOk template_numbers l → length (print_part template_numbers l) ≤ 2307
templates-length l ok = part_length template_numbers 36 l ok.few
    (each (λ x. All Small (template_numbers x)) (λ x. length (print_line (template_numbers x)) ≤ 36) short l ok.small)
  where
    short : (x : TemplateLine) → All Small (template_numbers x) → length (print_line (template_numbers x)) ≤ 36
    short x h = line-length x.cells (x.processors ∷ x.block ∷ []) h

-- a part whose lines begin with one of n names and go on with a number and m more
module _ {A : Type 0} (name : A → ℕ) (first : A → ℤ) (more : A → List ℤ) (m : ℕ)
    (long : (x : A) → length (more x) ≡ m) where
  abbrev numbers : A → List ℤ
  numbers x = pos (name x) ∷ first x ∷ more x

  named-part : (n : ℕ) → n ≤ 64 → (l : List A) → PartOk numbers l → All (λ x. name x < n) l
      → length (print_part numbers l) ≤ 3 + (3 + 12 * suc m) * 64
  named-part n most l ok named =
      part_length numbers (3 + 12 * suc m) l ok.few
      (each (λ x. (name x < n) × All Small (numbers x)) (λ x. length (print_line (numbers x)) ≤ 3 + 12 * suc m) short l
      (zip (λ x. name x < n) (λ x. All Small (numbers x)) l named ok.small))
    where
      short : (x : A) → (name x < n) × All Small (numbers x) → length (print_line (numbers x)) ≤ 3 + 12 * suc m
      short x (h, k) = rw (long x) at (named-length (name x) (first x) (more x) (omega arith) k.1)

-- ---- the whole sheet

pub print-short : (w : Sheet) (s : List ℕ) → IsPrint w s → length s ≤ 8841
unfolding print_sheet
print-short w s p =
    let ok = p.formed in
    let ts = print_part template_numbers w.templates in
    let xs = print_part array_numbers w.arrays in
    let zs = print_part section_numbers w.sections in
    let first : length ts ≤ 2307 = templates-length w.templates ok.templates in
    let second : length xs ≤ 4035 =
    named-part (λ x. x.template) (λ x. x.stride) (λ x. x.offset ∷ x.size ∷ x.lower ∷ x.origin ∷ []) 4 (λ x. refl)
    (length w.templates) ok.templates.few w.arrays ok.arrays ok.template-named in
    let third : length zs ≤ 2499 =
    named-part (λ x. x.array) (λ x. x.triplet.lower) (λ x. x.triplet.upper ∷ x.triplet.stride ∷ []) 2 (λ x. refl)
    (length w.arrays) ok.arrays.few w.sections ok.sections ok.array-named in
    rw p.printed (omega (arith, length-append ts (xs ++ zs), length-append xs zs))

-- a front of a print is no longer
front-short : (p : List ℕ) → Begins IsPrint p → length p ≤ 8841
front-short p (w, q, h) = omega (arith, print-short w (p ++ q) h, length-append p q)

pub place_short : (s : List ℕ) (n : ℕ) → Place IsPrint s n → n ≤ 8841
place_short s n h = rw (length-take-le n s h.within) at (front-short (take n s) h.front)

-- the first m bytes of a longer sheet are answered as the whole sheet is
module _ (s : List ℕ) (m : ℕ) (more : 8841 < m) (within : m ≤ length s) where
  cut-place : (n : ℕ) → Place IsPrint (take m s) n → Place IsPrint s n
  cut-place n h =
      let few = place_short (take m s) n h in
      record {
        within = omega arith;
        front = rw (take-take n m s (omega arith)) at h.front;
        longest = λ k l j b. far k l j b;
        refused = λ w p. omega (arith, print-short w s p);
      }
    where
      far : (k : ℕ) → n < k → k ≤ length s → Begins IsPrint (take k s) → ⊥
      far k l j b =
          let short : k ≤ 8841 = rw (length-take-le k s j) at (front-short (take k s) b) in
          h.longest k l (rw (length-take-le m s within) (omega arith)) (rw (take-take k m s (omega arith)) b)

  pub cut-reads : {e n : ℕ} {w : Sheet} → Reads (take m s) e n w → Reads s e n w
  cut-reads (formed {w = w} p) = absurd (omega (arith, print-short w (take m s) p, length-take-le m s within))
  cut-reads (malformed {n = n} h) = malformed (cut-place n h)
