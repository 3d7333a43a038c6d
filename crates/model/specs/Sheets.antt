-- Document 01, "The sheet and its print": what a sheet holds, which sheets are well formed, how one is printed, and the
-- place of refusal 14. Definitions only.
use Rattle.std.specs.Prelude.{ℕ, zero, suc, ◌+◌, ◌/◌, ◌%◌, ◌≤◌, ◌<◌, ◌≡◌, cond, List, [], ◌∷◌, ◌++◌, ltb, ℤ, pos, negsuc, nat_abs, length, get_or, take}
use Rattle.model.specs.declared.Triplet.{Triplet}
use Rattle.model.specs.Mappings.{cyclic, Section}

-- ---- what a sheet holds

-- a line `T p k`
pub record TemplateLine : Type 0 where
  pub cells : ℤ
  pub processors : ℤ
  pub block : ℤ

-- a line `template a b n La Lt`
pub record ArrayLine : Type 0 where
  pub template : ℕ
  pub stride : ℤ
  pub offset : ℤ
  pub size : ℤ
  pub lower : ℤ
  pub origin : ℤ

-- a line `array l h s`
pub record SectionLine : Type 0 where
  pub array : ℕ
  pub triplet : Triplet

pub record Sheet : Type 0 where
  pub templates : List TemplateLine
  pub arrays : List ArrayLine
  pub sections : List SectionLine

-- the numbers of a line, in its order
abbrev pub template_numbers : TemplateLine → List ℤ
template_numbers x = x.cells ∷ x.processors ∷ x.block ∷ []

abbrev pub array_numbers : ArrayLine → List ℤ
array_numbers x = pos x.template ∷ x.stride ∷ x.offset ∷ x.size ∷ x.lower ∷ x.origin ∷ []

abbrev pub section_numbers : SectionLine → List ℤ
section_numbers x = pos x.array ∷ x.triplet.lower ∷ x.triplet.upper ∷ x.triplet.stride ∷ []

-- ---- which are well formed

abbrev pub All : {A : Type 0} → (A → Type 0) → List A → Type 0
All P [] = Unit {0}
All P (x ∷ l) = P x × All P l

-- "size at most 2,147,483,647"
abbrev pub Small : ℤ → Type 0
Small z = nat_abs z ≤ 2147483647

-- a part of at most 64 lines, whose numbers are small
pub record PartOk {A : Type 0} (numbers : A → List ℤ) (l : List A) : Type 0 where
  pub few : length l ≤ 64
  pub small : All (λ x. All Small (numbers x)) l

-- "Templates and arrays are named by their number in their part, which must exist"
pub record WellFormed (w : Sheet) : Type 0 where
  pub templates : PartOk template_numbers w.templates
  pub arrays : PartOk array_numbers w.arrays
  pub sections : PartOk section_numbers w.sections
  pub template-named : All (λ x. x.template < length w.templates) w.arrays
  pub array-named : All (λ x. x.array < length w.arrays) w.sections

-- ---- the print

-- the digits of n as bytes, highest first (48 is `0`), k at most
abbrev pub digits_up_to : ℕ → ℕ → List ℕ
digits_up_to zero n = []
digits_up_to (suc k) n =
    let more : List ℕ = digits_up_to k (n / 10) ++ (48 + n % 10) ∷ [] in
    cond (ltb n 10) ((48 + n) ∷ []) more

-- n has at most n + 1 digits
unfoldable pub digits_of : ℕ → List ℕ
digits_of n = digits_up_to (suc n) n

-- "an optional minus and digits, no leading zero, no minus zero" (45 is `-`)
abbrev pub print_number : ℤ → List ℕ
print_number (pos n) = digits_of n
print_number (negsuc n) = 45 ∷ digits_of (suc n)

-- "one blank (byte 32) between numbers, one newline (byte 10) after each line"
abbrev pub print_line : List ℤ → List ℕ
print_line [] = 10 ∷ []
print_line (z ∷ []) = print_number z ++ 10 ∷ []
print_line (z ∷ y ∷ zs) = print_number z ++ 32 ∷ print_line (y ∷ zs)

abbrev pub print_lines : {A : Type 0} → (A → List ℤ) → List A → List ℕ
print_lines numbers [] = []
print_lines numbers (x ∷ l) = print_line (numbers x) ++ print_lines numbers l

-- "a line with its count and that many lines"
abbrev pub print_part : {A : Type 0} → (A → List ℤ) → List A → List ℕ
print_part numbers l = print_line (pos (length l) ∷ []) ++ print_lines numbers l

-- "three parts in fixed order, templates, arrays, sections", and "nothing after the last"
unfoldable pub print_sheet : Sheet → List ℕ
print_sheet w = print_part template_numbers w.templates ++ (print_part array_numbers w.arrays ++ print_part section_numbers w.sections)

-- the bytes s are the print of the well-formed sheet w
pub record IsPrint (w : Sheet) (s : List ℕ) : Type 0 where
  pub formed : WellFormed w
  pub printed : s ≡ print_sheet w

-- ---- the place of refusal 14, over any values and their texts

-- some value has a text that begins with p
abbrev pub Begins : {A : Type 0} → (A → List ℕ → Type 0) → List ℕ → Type 0
Begins {A} Text p = (a : A) × (q : List ℕ) × Text a (p ++ q)

-- s is no text, and n is the length of its longest front that some text begins with: "the first byte that no well-formed
-- sheet has after the bytes before it, or the length if the sheet ends early"
pub record Place {A : Type 0} (Text : A → List ℕ → Type 0) (s : List ℕ) (n : ℕ) : Type 0 where
  pub within : n ≤ length s
  pub front : Begins Text (take n s)
  pub longest : (m : ℕ) → n < m → m ≤ length s → Begins Text (take m s) → ⊥
  pub refused : (a : A) → Text a s → ⊥

-- ---- the answer

-- what a refused sheet is read as
abbrev pub no_sheet : Sheet
no_sheet = record { templates = []; arrays = []; sections = [] }

-- reading s answers a refusal's number, its place and a sheet: question 14, and "every other field is 0"
pub data Reads (s : List ℕ) : ℕ → ℕ → Sheet → Type 0 where
  formed : {w : Sheet} → IsPrint w s → Reads s 0 0 w
  malformed : {n : ℕ} → Place IsPrint s n → Reads s 14 n no_sheet

-- ---- what a section of a sheet stands for

abbrev pub no_template : TemplateLine
no_template = record { cells = pos 0; processors = pos 0; block = pos 0 }

abbrev pub no_array : ArrayLine
no_array = record { template = 0; stride = pos 0; offset = pos 0; size = pos 0; lower = pos 0; origin = pos 0 }

abbrev pub no_section : SectionLine
no_section = record { array = 0; triplet = record { lower = pos 0; upper = pos 0; stride = pos 0 } }

-- a section with the array and the template that it names
abbrev pub section_by : TemplateLine → ArrayLine → SectionLine → Section
section_by t a x =
    record {
      mapping = record {
        cells = t.cells;
        processors = t.processors;
        dealing = cyclic t.block;
        stride = a.stride;
        offset = a.offset;
        size = a.size;
        lower = a.lower;
        origin = a.origin;
      };
      triplet = x.triplet;
    }

-- section j of a sheet; past its sections and names, numbers are 0
unfoldable pub section_of : Sheet → ℕ → Section
section_of w j =
    let x = get_or w.sections j no_section in
    let a = get_or w.arrays x.array no_array in
    section_by (get_or w.templates a.template no_template) a x
