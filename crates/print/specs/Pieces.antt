-- What is still to be printed of a sheet after each piece. Definitions only.
use Rattle.std.specs.Prelude.{ℕ, zero, suc, ◌-◌, ◌≤◌, ◌≡◌, List, [], ◌++◌, length, take}
use Rattle.model.specs.Sheets.{Sheet, IsPrint, Place, section_of}
use Rattle.sheet.specs.declared.Content.{Content}
use Rattle.sheet.specs.Contents.{section_in}
use Rattle.print.specs.declared.pieces.Left.{Left}
use Rattle.print.specs.declared.parts.Part.{Part}
use Rattle.print.specs.declared.pieces.Opened.{Opened}
use Rattle.print.specs.Texts.{section_text, sheet_line}
use Rattle.print.specs.Turns.{text_left, Stands}

-- ---- the whole print

-- n sections of a sheet from j on
unfoldable pub list_from : Sheet → ℕ → ℕ → List ℕ
list_from w j zero = []
list_from w j (suc n) = section_text j (section_of w j) ++ list_from w (suc j) n

-- what `list` prints for the bytes s: the sheet's sections in order, or `E 14 place` only
pub data Prints (s : List ℕ) : List ℕ → Type 0 where
  formed : (w : Sheet) → IsPrint w s → Prints s (list_from w 0 (length w.sections))
  malformed : (n : ℕ) → Place IsPrint s n → Prints s (sheet_line n)

-- ---- in pieces

-- n sections from j on, of some content
unfoldable pub sections_text : Content → ℕ → ℕ → List ℕ
sections_text c j zero = []
sections_text c j (suc n) = section_text j (section_in c j) ++ sections_text c (suc j) n

abbrev pub sections_from : Content → ℕ → List ℕ
sections_from c j = sections_text c j (c.sections.count - j)

-- the text that is left
abbrev pub left_text : Content → Left → List ℕ
left_text c l = text_left l.turn ++ sections_from c l.section

-- A piece is the front of the text that was left, and what is left comes after it. A piece without bytes is the last.
pub record PieceOf (c : Content) (text out : List ℕ) (p : Part Left) : Type 0 where
  pub within : p.bytes ≤ length out
  pub printed : text ≡ take p.bytes out ++ left_text c p.next
  pub stands : Stands p.next.turn
  pub last : p.bytes ≡ 0 → text ≡ []

-- the first piece of what `list` prints for the bytes s
pub record OpenedOf (s out : List ℕ) (r : Opened) : Type 0 where
  pub text : List ℕ
  pub prints : Prints s text
  pub piece : PieceOf r.content text out r.piece
