-- The readings of lines, of parts and of three parts are formats.
use Prim.Native.Nat.{ℕ, zero, suc, ◌≤◌, ◌<◌}
use mathlib.Core.Path.{◌≡◌, refl, sym, ◌∙◌, ap, subst}
use mathlib.Core.List.{List, [], ◌∷◌, ◌++◌, append_assoc, append-nil}
use native.Mathlib.Omega.{arith}
use lib.IntN.{ℤ}
use lib.ListN.{length, take}
use lib.Seq.{length-take-le}
use Rattle.model.specs.Sheets.{All, Small, digits_of, print_number, print_line}
use Rattle.sheet.specs.declared.Line.{Line}
use Rattle.sheet.specs.declared.part.Part.{Part}
use Rattle.sheet.specs.declared.part.Part.TheVariants.{Templates, Arrays, Sections}
use Rattle.sheet.specs.Reading.{both, rows}
use Rattle.sheet.specs.Numbers.{number}
use Rattle.sheet.specs.Parts.{end_by, line_of, numbered, named, limit_by, limit, lines, part, Parts, parts}
use Rattle.sheet.proofs.Format.{Format, Two, pair, across, Texts, Counted, no_rows, rows-format}
use Rattle.sheet.proofs.NaturalLaws.{NaturalText, natural-format}
use Rattle.sheet.proofs.NumberLaws.{NumberText, number-format}

-- ---- lines

-- the byte after a number is no digit
pub end_mark : (m : ℕ) → end_by m < 48
end_mark zero = omega arith
end_mark (suc m) = omega arith

abbrev NumberEnd : ℕ → ℤ → List ℕ → Type 0
NumberEnd m = NumberText 2147483648 (end_by m)

-- the texts of some numbers, one after the other, are their print as a line
numbers_up : (a : ℤ) (l : List ℤ) (z : List ℕ) → Texts NumberEnd (a ∷ l) z → All Small (a ∷ l) × (z ≡ print_line (a ∷ l))
numbers_up a [] z (u, v, o, t, e) = ((omega (arith, o.size), tt), rw (e, o.text, t, append-nil))
numbers_up a (b ∷ l) z (u, v, o, t, e) =
    let (p, q) = numbers_up b l v t in
    ((omega (arith, o.size), p), rw (e, o.text, q, append_assoc))

numbers-down : (a : ℤ) (l : List ℤ) → All Small (a ∷ l) → Texts NumberEnd (a ∷ l) (print_line (a ∷ l))
numbers-down a [] p =
    (print_number a ++ 10 ∷ [], [], record { size = omega (arith, p.0); text = refl }, refl, rw append-nil)
numbers-down a (b ∷ l) p = (
  print_number a ++ 32 ∷ [],
  print_line (b ∷ l),
  record { size = omega (arith, p.0); text = refl },
  numbers-down b l p.1,
  rw append_assoc,
)

-- the first n numbers of a line
abbrev pub numbers_of : ℕ → Line → List ℤ
numbers_of n x = take n (x.first ∷ x.second ∷ x.third ∷ x.fourth ∷ x.fifth ∷ [])

numbers-back : (name : ℕ) (l : List ℤ) → length l ≤ 5 → numbers_of (length l) (line_of name l) ≡ l
numbers-back name [] h = refl
numbers-back name (a ∷ []) h = refl
numbers-back name (a ∷ b ∷ []) h = refl
numbers-back name (a ∷ b ∷ c ∷ []) h = refl
numbers-back name (a ∷ b ∷ c ∷ d ∷ []) h = refl
numbers-back name (a ∷ b ∷ c ∷ d ∷ e ∷ []) h = refl
numbers-back name (a ∷ b ∷ c ∷ d ∷ e ∷ f ∷ l) h = absurd (omega arith)

-- a line of a name, a number and m more
pub record NumberedText (m name : ℕ) (x : Line) (z : List ℕ) : Type 0 where
  pub made : line_of name (numbers_of (suc m) x) ≡ x
  pub small : All Small (numbers_of (suc m) x)
  pub text : z ≡ print_line (numbers_of (suc m) x)

numbered-format : (m name : ℕ) → m ≤ 4 → Format (NumberedText m name) (numbered (suc m) name)
numbered-format m name h =
    across (NumberedText m name) (line_of name)
    (rows-format NumberEnd (λ m. number (end_by m)) (λ m. number-format (end_by m) (end_mark m)) (suc m)) up down
  where
    up : (l : List ℤ) (z : List ℕ) → Counted NumberEnd (suc m) l z → NumberedText m name (line_of name l) z
    up [] z (k, t) = absurd (omega (arith, k))
    up (a ∷ l) z (k, t) =
        let same : numbers_of (suc m) (line_of name (a ∷ l)) ≡ a ∷ l =
        subst (λ (n : ℕ). numbers_of n (line_of name (a ∷ l)) ≡ a ∷ l) k (numbers-back name (a ∷ l) (omega (arith, k))) in
        let (p, q) = numbers_up a l z t in
        record { made = ap (line_of name) same; small = subst (All Small) (sym same) p; text = q ∙ ap print_line (sym same) }

    down : (x : Line) (z : List ℕ) → NumberedText m name x z → (l : List ℤ) × Counted NumberEnd (suc m) l z
        × (line_of name l ≡ x)
    down x z t = (
      numbers_of (suc m) x,
      (
        length-take-le (suc m) (numbers_of 5 x) (omega arith),
        rw t.text (numbers-down x.first (take m (x.second ∷ x.third ∷ x.fourth ∷ x.fifth ∷ [])) t.small),
      ),
      t.made,
    )

-- a line that begins with one of some names and goes on with a number and m more
pub record NamedText (names m : ℕ) (x : Line) (z : List ℕ) : Type 0 where
  pub named : x.name < names
  pub rest : List ℕ
  pub numbers : NumberedText m x.name x rest
  pub text : z ≡ digits_of x.name ++ 32 ∷ rest

named-format : (names m : ℕ) → 0 < names → m ≤ 4 → Format (NamedText names m) (named names (suc m))
named-format names m h k =
    across (NamedText names m) (λ x. x.1)
    (pair (NumberedText m) (numbered (suc m)) (natural-format 0 names 32 (omega arith) h (omega arith))
    (λ a u o. numbered-format m a k))
    up down
  where
    up : (x : ℕ × Line) (z : List ℕ) → Two (NaturalText 0 names 32) (NumberedText m) x z → NamedText names m x.1 z
    up x z (u, v, o, t, e) =
        let same : x.0 ≡ x.1.name = ap (λ (y : Line). y.name) t.made in
        record {
          named = rw same at o.below;
          rest = v;
          numbers = subst (λ (a : ℕ). NumberedText m a x.1 v) same t;
          text = rw (e, o.text, append_assoc, same);
        }

    down : (x : Line) (z : List ℕ) → NamedText names m x z → (y : ℕ × Line)
        × Two (NaturalText 0 names 32) (NumberedText m) y z × (y.1 ≡ x)
    down x z t = (
      (x.name, x),
      (
        digits_of x.name ++ 32 ∷ [],
        t.rest,
        record { least = omega arith; below = t.named; text = refl },
        t.numbers,
        rw (t.text, append_assoc),
      ),
      refl,
    )

abbrev pub LineText : Part → Line → List ℕ → Type 0
LineText Templates = NumberedText 2 0
LineText (Arrays n) = NamedText n 4
LineText (Sections n) = NamedText n 2

abbrev pub LinesText : Part → List Line → List ℕ → Type 0
LinesText k = Texts (λ m. LineText k)

-- ---- parts

-- where there is nothing to name there is no line
named-lines : (names m : ℕ) → m ≤ 4 → (n : ℕ) → n < limit_by names
    → Format (Counted (λ i. NamedText names m) n) (rows (λ i. named names (suc m)) n)
named-lines zero m k zero h = no_rows (λ i. NamedText 0 m) (λ i. named 0 (suc m))
named-lines zero m k (suc n) h = absurd (omega arith)
named-lines (suc names) m k n h =
    rows-format (λ i. NamedText (suc names) m) (λ i. named (suc names) (suc m))
    (λ i. named-format (suc names) m (omega arith) k) n

lines-format : (k : Part) (n : ℕ) → n < limit k → Format (Counted (λ m. LineText k) n) (lines k n)
lines-format Templates n h =
    rows-format (λ i. NumberedText 2 0) (λ i. numbered 3 0) (λ i. numbered-format 2 0 (omega arith)) n
lines-format (Arrays names) n h = named-lines names 4 (omega arith) n h
lines-format (Sections names) n h = named-lines names 2 (omega arith) n h

pub limit-some : (n : ℕ) → 0 < limit_by n
limit-some zero = omega arith
limit-some (suc n) = omega arith

pub limit-most : (n : ℕ) → limit_by n ≤ 65
limit-most zero = omega arith
limit-most (suc n) = omega arith

pub part-some : (k : Part) → 0 < limit k
part-some Templates = omega arith
part-some (Arrays n) = limit-some n
part-some (Sections n) = limit-some n

pub part-most : (k : Part) → limit k ≤ 65
part-most Templates = omega arith
part-most (Arrays n) = limit-most n
part-most (Sections n) = limit-most n

pub record PartText (k : Part) (l : List Line) (z : List ℕ) : Type 0 where
  pub few : length l < limit k
  pub rest : List ℕ
  pub texts : LinesText k l rest
  pub text : z ≡ (digits_of (length l) ++ 10 ∷ []) ++ rest

pub part-format : (k : Part) → Format (PartText k) (part k)
part-format k =
    across (PartText k) (λ x. x.1)
    (pair (Counted (λ m. LineText k)) (lines k) (natural-format 0 (limit k) 10 (omega arith) (part-some k) (omega arith))
    (λ n u o. lines-format k n o.below))
    up down
  where
    up : (x : ℕ × List Line) (z : List ℕ) → Two (NaturalText 0 (limit k) 10) (Counted (λ m. LineText k)) x z
        → PartText k x.1 z
    up x z (u, v, o, (h, t), e) = record { few = rw h o.below; rest = v; texts = t; text = rw (e, o.text, ← h) }

    down : (l : List Line) (z : List ℕ) → PartText k l z → (y : ℕ × List Line)
        × Two (NaturalText 0 (limit k) 10) (Counted (λ m. LineText k)) y z × (y.1 ≡ l)
    down l z t = (
      (length l, l),
      (
        digits_of (length l) ++ 10 ∷ [],
        t.rest,
        record { least = omega arith; below = t.few; text = refl },
        (refl, t.texts),
        t.text,
      ),
      refl,
    )

-- ---- three parts

pub record PartsText (w : Parts) (z : List ℕ) : Type 0 where
  pub first : List ℕ
  pub second : List ℕ
  pub third : List ℕ
  pub templates : PartText Templates w.templates first
  pub arrays : PartText (Arrays (length w.templates)) w.arrays second
  pub sections : PartText (Sections (length w.arrays)) w.sections third
  pub text : z ≡ first ++ (second ++ third)

abbrev Three : Type 0
Three = List Line × (List Line × List Line)

abbrev pub to_parts : Three → Parts
to_parts x = record { templates = x.0; arrays = x.1.0; sections = x.1.1 }

pub parts-format : Format PartsText parts
parts-format =
    across PartsText to_parts
    (pair Later (λ ts. both (part (Arrays (length ts))) (λ xs. part (Sections (length xs)))) (part-format Templates)
    (λ ts u o. pair (λ xs. PartText (Sections (length xs))) (λ xs. part (Sections (length xs)))
    (part-format (Arrays (length ts))) (λ xs v p. part-format (Sections (length xs)))))
    up down
  where
    Later : List Line → List Line × List Line → List ℕ → Type 0
    Later ts = Two (PartText (Arrays (length ts))) (λ xs. PartText (Sections (length xs)))

    up : (x : Three) (z : List ℕ) → Two (PartText Templates) Later x z → PartsText (to_parts x) z
    up x z (u, v, o, (u', v', p, q, e'), e) =
        record { first = u; second = u'; third = v'; templates = o; arrays = p; sections = q; text = rw (e, e') }

    down : (w : Parts) (z : List ℕ) → PartsText w z → (y : Three) × Two (PartText Templates) Later y z × (to_parts y ≡ w)
    down w z t = (
      (w.templates, (w.arrays, w.sections)),
      (t.first, t.second ++ t.third, t.templates, (t.second, t.third, t.arrays, t.sections, refl), t.text),
      refl,
    )
