-- Where there is nothing to name: no well-formed sheet has a line there, and in the count every byte but `0` fails at once.
use Prim.Native.Nat.{ℕ, ◌<◌}
use mathlib.Core.Path.{◌≡◌, refl}
use mathlib.Core.Bool.{Bool, true, false}
use mathlib.Core.List.{List, [], ◌∷◌, ◌++◌, map}
use native.Mathlib.Omega.{arith}
use lib.ListN.{length}
use Rattle.model.specs.Sheets.{TemplateLine, Sheet, template_numbers, All, PartOk, WellFormed, digits_of, print_part}
use Rattle.sheet.specs.declared.part.Part.{Part}
use Rattle.sheet.specs.declared.part.Part.TheVariants.{Templates, Arrays}
use Rattle.sheet.specs.Reading.{got, bad}
use Rattle.sheet.specs.Numbers.{starts, natural}
use Rattle.sheet.specs.Parts.{limit, part}
use Rattle.sheet.specs.Contents.{from_template, read_sheet}
use Rattle.sheet.proofs.NaturalLaws.{started, barred, natural-format}
use Rattle.sheet.proofs.PartLaws.{part-some, part-format}
use Rattle.sheet.proofs.SheetLaws.{templates-same, part-down}

no_line : {A : Type 0} (name : A → ℕ) (n : ℕ) (l : List A) → n ≡ 0 → All (λ x. name x < n) l → l ≡ []
no_line name n [] e h = refl
no_line name n (x ∷ l) e h = absurd (omega (arith, h.0))

pub no-arrays : (w : Sheet) → WellFormed w → length w.templates ≡ 0 → w.arrays ≡ []
no-arrays w ok e = no_line (λ x. x.template) (length w.templates) w.arrays e ok.template-named

pub no-sections : (w : Sheet) → WellFormed w → length w.arrays ≡ 0 → w.sections ≡ []
no-sections w ok e = no_line (λ x. x.array) (length w.arrays) w.sections e ok.array-named

-- ---- the count of a part

only_zero : (b : ℕ) (t : List ℕ) → (b ≡ 48 → ⊥) → natural 0 1 10 (b ∷ t) ≡ bad (b ∷ t)
only_zero b t h = by (starts 0 1 b) refl
  where
    by : (x : Bool) → starts 0 1 b ≡ x → natural 0 1 10 (b ∷ t) ≡ bad (b ∷ t)
    by true e = let s = started 0 1 b e in absurd (h (omega (arith, s.least, s.small)))
    by false e = barred 0 1 10 b t e

zero-lines : (k : Part) (t : List ℕ) → part k (48 ∷ 10 ∷ t) ≡ got [] t
unfolding digits_of
zero-lines k t =
    rw ((natural-format 0 (limit k) 10 (omega arith) (part-some k) (omega arith)).complete 0 (48 ∷ 10 ∷ [])
    (record { least = omega arith; below = part-some k; text = refl }) t)

templates-read : (ts : List TemplateLine) → PartOk template_numbers ts → (t : List ℕ)
    → part Templates (print_part template_numbers ts ++ t) ≡ got (map from_template ts) t
templates-read ts ok t =
    (part-format Templates).complete (map from_template ts) (print_part template_numbers ts)
    (part-down templates-same ts (omega (arith, ok.few)) ok.small) t

-- after 0 templates, the count of the arrays
pub arrays-barred : (b : ℕ) (t : List ℕ) → (b ≡ 48 → ⊥) → read_sheet (48 ∷ 10 ∷ b ∷ t) ≡ bad (b ∷ t)
unfolding read_sheet
arrays-barred b t h = rw (zero-lines Templates (b ∷ t), only_zero b t h)

-- after any templates and 0 arrays, the count of the sections
pub sections-barred : (ts : List TemplateLine) → PartOk template_numbers ts → (b : ℕ) (t : List ℕ) → (b ≡ 48 → ⊥)
    → read_sheet (print_part template_numbers ts ++ 48 ∷ 10 ∷ b ∷ t) ≡ bad (b ∷ t)
unfolding read_sheet
sections-barred ts ok b t h =
    rw (templates-read ts ok (48 ∷ 10 ∷ b ∷ t), zero-lines (Arrays (length (map from_template ts))) (b ∷ t), only_zero b t h)
