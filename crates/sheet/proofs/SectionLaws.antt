-- A section of the content that was read stands for what the model says of that section of the sheet.
use Prim.Native.Nat.{ℕ}
use mathlib.Core.Path.{◌≡◌, refl, ◌∙◌}
use mathlib.Core.List.{List, ◌++◌, map}
use lib.ListN.{replicate, get_or, get_or-map}
use Rattle.model.specs.Sheets.{Sheet, no_template, no_array, no_section, section_of}
use Rattle.sheet.specs.declared.Line.{Line}
use Rattle.sheet.specs.Contents.{from_template, from_array, from_section, no_line, content_of, section_in}
use Rattle.sheet.proofs.RowLaws.{kept_row}

row_of : {A : Type 0} (from : A → Line) (d : A) → from d ≡ no_line → (l : List A) (k i : ℕ)
    → get_or (map from l ++ replicate k no_line) i no_line ≡ from (get_or l i d)
row_of from d e l k i = kept_row no_line (map from l) k i ∙ rw (← e) (get_or-map from l i d)

pub section-stands : (w : Sheet) (j : ℕ) → section_in (content_of w) j ≡ section_of w j
unfolding section_in section_of
section-stands w j =
    rw (
      row_of from_section no_section refl w.sections _ j,
      row_of from_array no_array refl w.arrays _ (get_or w.sections j no_section).array,
      row_of from_template no_template refl w.templates,
    )
