-- What is still to be printed of a section after each part. Definitions only.
use Rattle.std.specs.Prelude.{ℕ, suc, ◌-◌, ◌*◌, ◌≤◌, ◌<◌, ◌≡◌, List, [], ◌∷◌, ◌++◌, map, length, take}
use Rattle.model.specs.Mappings.{Section}
use Rattle.model.specs.Sections.{layout, address}
use Rattle.print.specs.declared.parts.Turn.{Turn}
use Rattle.print.specs.declared.parts.Turn.TheVariants.{Line, Addresses, Done}
use Rattle.print.specs.declared.parts.Part.{Part}
use Rattle.print.specs.Texts.{processor_lines, next_numbers}
use Rattle.print.specs.Ahead.{listed, Owner, rest_of, StandsIn}

-- the lines from processor q on
abbrev pub lines_from : Section → ℕ → List ℕ
lines_from x q = processor_lines x q ((layout x).processors - q)

-- the text that is left
abbrev pub text_left : Turn → List ℕ
text_left (Line x q) = lines_from (listed x) q
text_left (Addresses x q r) =
    next_numbers (map (address (listed x)) (rest_of (listed x) q r)) ++ 10 ∷ lines_from (listed x) (suc q)
text_left Done = []

abbrev pub Stands : Turn → Type 0
Stands (Line x q) = Owner x q
Stands (Addresses x q r) = Owner x q × StandsIn (listed x) q r
Stands Done = Unit {0}

-- room for a line's front, and for a blank and 10 digits for each entry of the list
pub record Room (list out : List ℕ) : Type 0 where
  pub some : 0 < length list
  pub front : 64 ≤ length out
  pub entries : 11 * length list ≤ length out

-- A part is the front of the text that was left, and what is left comes after it. A part without bytes is the last.
pub record PartOf (text out : List ℕ) (p : Part Turn) : Type 0 where
  pub within : p.bytes ≤ length out
  pub printed : text ≡ take p.bytes out ++ text_left p.next
  pub stands : Stands p.next
  pub last : p.bytes ≡ 0 → text ≡ []
