-- The text of what `list` prints, as document 01 has it ("The sheet and its print"). Numbers, blanks and newlines are those of
-- the sheet's own print (model `Sheets`). Definitions only.
use Rattle.std.specs.Prelude.{ℕ, zero, suc, ◌+◌, ◌≡◌, cond, List, [], ◌∷◌, ◌++◌, map, eqb, pos, length}
use Rattle.std.proofs.lemmas.List.Edits.{sets}
use Rattle.numbers.specs.Search.{sum}
use Rattle.model.specs.Mappings.{Section}
use Rattle.model.specs.Sections.{layout, count, address, places}
use Rattle.model.specs.Steps.{cost}
use Rattle.model.specs.Questions.{first_no, of_section}
use Rattle.model.specs.Sheets.{digits_of, print_line}

-- ---- lines

-- `S j count` (83 is `S`)
abbrev pub section_line : ℕ → ℕ → List ℕ
section_line j n = 83 ∷ 32 ∷ print_line (pos j ∷ pos n ∷ [])

-- `S j E number` (69 is `E`)
abbrev pub refusal_line : ℕ → ℕ → List ℕ
refusal_line j e = 83 ∷ 32 ∷ digits_of j ++ 32 ∷ 69 ∷ 32 ∷ print_line (pos e ∷ [])

-- `E 14 place`
abbrev pub sheet_line : ℕ → List ℕ
sheet_line n = 69 ∷ 32 ∷ print_line (pos 14 ∷ pos n ∷ [])

-- "processor, number of section elements it owns, tries for its full list, and their addresses in section order"
unfoldable pub processor_line : Section → ℕ → List ℕ
processor_line x q =
    let ps = places x q in
    print_line (pos q ∷ pos (length ps) ∷ pos (sum (map (cost x) ps)) ∷ map pos (map (address x) ps))

-- the lines of n processors from q on
unfoldable pub processor_lines : Section → ℕ → ℕ → List ℕ
processor_lines x q zero = []
processor_lines x q (suc n) = processor_line x q ++ processor_lines x (suc q) n

-- all that is printed for section j; "a section that is refused prints `S j E number` only"
unfoldable pub section_text : ℕ → Section → List ℕ
section_text j x =
    let e = first_no (of_section x) in
    let lines = section_line j (count x) ++ processor_lines x 0 (layout x).processors in
    cond (eqb e 0) lines (refusal_line j e)

-- ---- parts of a processor's line

-- a blank before each number
unfoldable pub next_numbers : List ℕ → List ℕ
next_numbers [] = []
next_numbers (a ∷ l) = 32 ∷ digits_of a ++ next_numbers l

-- the processor, its elements and its tries
abbrev pub line_front : ℕ → ℕ → ℕ → List ℕ
line_front q n t = digits_of q ++ 32 ∷ (digits_of n ++ 32 ∷ digits_of t)

-- ---- text put into lent bytes

-- The bytes afterwards are those before with the text from a place on, every other byte as it was; end is the place after it.
pub record Puts (text before : List ℕ) (at : ℕ) (after : List ℕ) (end : ℕ) : Type 0 where
  pub bytes : after ≡ sets before at text
  pub ends : end ≡ at + length text
