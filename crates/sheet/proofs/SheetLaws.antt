-- Reading accepts exactly the prints of well-formed sheets and gives back what was printed; the place of a refusal is the
-- length of the longest front of a print, and there is one.
use Prim.Native.Nat.{ℕ, zero, suc, ◌-◌, ◌≤◌, ◌<◌}
use mathlib.Core.Path.{◌≡◌, refl, ◌∙◌, ap}
use mathlib.Core.List.{List, [], ◌∷◌, ◌++◌, map}
use native.Mathlib.Omega.{arith}
use lib.IntN.{ℤ, pos}
use lib.ListN.{length, length-map}
use Rattle.model.specs.Sheets.{TemplateLine, ArrayLine, SectionLine, Sheet, template_numbers, array_numbers, section_numbers}
use Rattle.model.specs.Sheets.{All, Small, digits_of, print_line, print_lines, print_part, print_sheet}
use Rattle.model.specs.Sheets.{IsPrint, Place}
use Rattle.sheet.specs.declared.Line.{Line}
use Rattle.sheet.specs.declared.part.Part.{Part}
use Rattle.sheet.specs.declared.part.Part.TheVariants.{Templates, Arrays, Sections}
use Rattle.sheet.specs.Reading.{got, bad, via}
use Rattle.sheet.specs.Parts.{line_of, limit_by, limit, Parts, parts}
use Rattle.sheet.specs.Contents.{to_template, to_array, to_section, to_sheet, from_template, from_array, from_section}
use Rattle.sheet.specs.Contents.{from_sheet, read_sheet}
use Rattle.sheet.proofs.AllLaws.{zip, unzip}
use Rattle.sheet.proofs.Format.{Format, took, across}
use Rattle.sheet.proofs.WholeLaws.{whole-complete, whole-sound, whole-place}
use Rattle.sheet.proofs.PartLaws.{numbers_of, NamedText, LineText, LinesText, limit-most, part-most, PartText}
use Rattle.sheet.proofs.PartLaws.{PartsText, parts-format}

-- ---- a part's lines as the model has them

-- P says which lines the part may have
pub record Same {A : Type 0} (k : Part) (to : Line → A) (from : A → Line) (numbers : A → List ℤ)
    (P : A → Type 0) : Type 0 where
  up : (x : Line) (z : List ℕ) → LineText k x z → P (to x) × (z ≡ print_line (numbers (to x)))
  down : (a : A) → P a → LineText k (from a) (print_line (numbers a))
  there : (a : A) → to (from a) ≡ a
  back : (x : Line) (z : List ℕ) → LineText k x z → from (to x) ≡ x

module _ {A : Type 0} {k : Part} {to : Line → A} {from : A → Line} {numbers : A → List ℤ} {P : A → Type 0}
    (same : Same k to from numbers P) where
  lines-up : (l : List Line) (z : List ℕ) → LinesText k l z → All P (map to l) × (z ≡ print_lines numbers (map to l))
  lines-up [] z e = (tt, e)
  lines-up (x ∷ l) z (u, v, o, t, e) =
      let (p, q) = same.up x u o in
      let (ps, qs) = lines-up l v t in
      ((p, ps), rw (e, q, qs))

  lines-down : (l : List A) → All P l → LinesText k (map from l) (print_lines numbers l)
  lines-down [] h = refl
  lines-down (a ∷ l) h = (print_line (numbers a), print_lines numbers l, same.down a h.0, lines-down l h.1, refl)

  lines-there : (l : List A) → map to (map from l) ≡ l
  lines-there [] = refl
  lines-there (a ∷ l) = rw (same.there a, lines-there l)

  lines-back : (l : List Line) (z : List ℕ) → LinesText k l z → map from (map to l) ≡ l
  lines-back [] z e = refl
  lines-back (x ∷ l) z (u, v, o, t, e) = rw (same.back x u o, lines-back l v t)

  part_up : (l : List Line) (z : List ℕ) → PartText k l z → (length (map to l) ≤ 64) × All P (map to l)
      × (z ≡ print_part numbers (map to l))
  part_up l z t =
      let (p, q) = lines-up l t.rest t.texts in
      (rw length-map (omega (arith, t.few, part-most k)), p, rw (t.text, q, length-map))

  pub part-down : (l : List A) → length l < limit k → All P l → PartText k (map from l) (print_part numbers l)
  part-down l h p = record { few = rw length-map h; rest = print_lines numbers l; texts = lines-down l p; text = rw length-map }

-- ---- each part

abbrev TemplateOk : TemplateLine → Type 0
TemplateOk x = All Small (template_numbers x)

abbrev ArrayOk : ℕ → ArrayLine → Type 0
ArrayOk n x = (x.template < n) × All Small (array_numbers x)

abbrev SectionOk : ℕ → SectionLine → Type 0
SectionOk n x = (x.array < n) × All Small (section_numbers x)

-- a line that begins with a name, and its numbers
module _ (n m : ℕ) where
  abbrev named_numbers : Line → List ℤ
  named_numbers x = pos x.name ∷ numbers_of (suc m) x

  named-up : n ≤ 64 → (x : Line) (z : List ℕ) → NamedText n m x z → ((x.name < n) × All Small (named_numbers x))
      × (z ≡ print_line (named_numbers x))
  named-up h x z t = (
    (t.named, (omega (arith, t.named), t.numbers.small)),
    t.text ∙ ap (λ (r : List ℕ). digits_of x.name ++ 32 ∷ r) t.numbers.text,
  )

  named-down : (x : Line) → line_of x.name (numbers_of (suc m) x) ≡ x → (x.name < n) × All Small (named_numbers x)
      → NamedText n m x (print_line (named_numbers x))
  named-down x e (h, p) =
      record {
        named = h;
        rest = print_line (numbers_of (suc m) x);
        numbers = record { made = e; small = p.1; text = refl };
        text = refl;
      }

pub templates-same : Same Templates to_template from_template template_numbers TemplateOk
templates-same =
    record {
      up = λ x z t. (t.small, t.text);
      down = λ a p. record { made = refl; small = p; text = refl };
      there = λ a. refl;
      back = λ x z t. t.made;
    }

arrays-same : (n : ℕ) → n ≤ 64 → Same (Arrays n) to_array from_array array_numbers (ArrayOk n)
arrays-same n h =
    record {
      up = named-up n 4 h;
      down = λ a. named-down n 4 (from_array a) refl;
      there = λ a. refl;
      back = λ x z t. t.numbers.made;
    }

sections-same : (n : ℕ) → n ≤ 64 → Same (Sections n) to_section from_section section_numbers (SectionOk n)
sections-same n h =
    record {
      up = named-up n 2 h;
      down = λ a. named-down n 2 (from_section a) refl;
      there = λ a. refl;
      back = λ x z t. t.numbers.made;
    }

-- where nothing can be named there is no line
few-lines : {A : Type 0} (name : A → ℕ) (n : ℕ) (l : List A) → length l ≤ 64 → All (λ x. name x < n) l
    → length l < limit_by n
few-lines name zero [] h p = omega arith
few-lines name zero (x ∷ l) h p = absurd (omega (arith, p.0))
few-lines name (suc n) l h p = omega arith

-- ---- the whole sheet

sheet-up : (w : Parts) (z : List ℕ) → PartsText w z → IsPrint (to_sheet w) z
unfolding print_sheet
sheet-up w z t =
    let n : length w.templates ≤ 64 = omega (arith, t.templates.few) in
    let m : length w.arrays ≤ 64 = omega (arith, t.arrays.few, limit-most (length w.templates)) in
    let (f1, p1, e1) = part_up templates-same w.templates t.first t.templates in
    let (f2, p2, e2) = part_up (arrays-same (length w.templates) n) w.arrays t.second t.arrays in
    let (f3, p3, e3) = part_up (sections-same (length w.arrays) m) w.sections t.third t.sections in
    let (named, small) = unzip (λ x. x.template < length w.templates) (λ x. All Small (array_numbers x))
    (map to_array w.arrays) p2 in
    let (named', small') = unzip (λ x. x.array < length w.arrays) (λ x. All Small (section_numbers x))
    (map to_section w.sections) p3 in
    record {
      formed = record {
        templates = record { few = f1; small = p1 };
        arrays = record { few = f2; small = small };
        sections = record { few = f3; small = small' };
        template-named = rw length-map named;
        array-named = rw length-map named';
      };
      printed = rw (t.text, e1, e2, e3);
    }

sheet-down : (w : Sheet) (z : List ℕ) → IsPrint w z → (v : Parts) × PartsText v z × (to_sheet v ≡ w)
unfolding print_sheet
sheet-down w z t =
    let n = length w.templates in
    let m = length w.arrays in
    let ok = t.formed in
    let few = ok.arrays.few in
    let few' = ok.sections.few in
    let p2 = zip (λ x. x.template < n) (λ x. All Small (array_numbers x)) w.arrays ok.template-named
    ok.arrays.small in
    let p3 = zip (λ x. x.array < m) (λ x. All Small (section_numbers x)) w.sections ok.array-named
    ok.sections.small in (
      from_sheet w,
      record {
        first = print_part template_numbers w.templates;
        second = print_part array_numbers w.arrays;
        third = print_part section_numbers w.sections;
        templates = part-down templates-same w.templates (omega (arith, ok.templates.few)) ok.templates.small;
        arrays = rw length-map (part-down (arrays-same n ok.templates.few) w.arrays
            (few-lines (λ x. x.template) n w.arrays few ok.template-named) p2);
        sections = rw length-map (part-down (sections-same m few) w.sections
            (few-lines (λ x. x.array) m w.sections few' ok.array-named) p3);
        text = t.printed;
      },
      rw (
        lines-there templates-same w.templates,
        lines-there (arrays-same n ok.templates.few) w.arrays,
        lines-there (sections-same m few) w.sections,
      ),
    )

sheet-format : Format IsPrint (via to_sheet parts)
sheet-format = across IsPrint to_sheet parts-format sheet-up sheet-down

-- what was read is what the model's lines give back
pub parts-back : (s t : List ℕ) (w : Parts) → parts s ≡ got w t → from_sheet (to_sheet w) ≡ w
parts-back s t w e =
    let (x, o, q) = took parts-format e in
    let n : length w.templates ≤ 64 = omega (arith, o.templates.few) in
    let m : length w.arrays ≤ 64 = omega (arith, o.arrays.few, limit-most (length w.templates)) in
    rw (
      lines-back templates-same w.templates _ o.templates.texts,
      lines-back (arrays-same (length w.templates) n) w.arrays _ o.arrays.texts,
      lines-back (sections-same (length w.arrays) m) w.sections _ o.sections.texts,
    )

-- ---- the laws

pub accepts : (w : Sheet) (s : List ℕ) → IsPrint w s → read_sheet s ≡ got w []
unfolding read_sheet
accepts = whole-complete sheet-format

pub reads-back : (s t : List ℕ) (w : Sheet) → read_sheet s ≡ got w t → IsPrint w s
unfolding read_sheet
reads-back = whole-sound sheet-format

pub refusal-place : (s t : List ℕ) → read_sheet s ≡ bad t → Place IsPrint s (length s - length t)
unfolding read_sheet
refusal-place = whole-place sheet-format
