-- The sheet that document 01 prints, and sheets with a mistake, each with its refusal and place as one table. Definitions only;
-- proofs/CasesHold.antt computes it.
use Rattle.std.specs.Prelude.{ℕ, Bool, true, ◌&&◌, List, [], ◌∷◌, eqb, length}
use Prim.Native.Char.{code}
use Prim.Native.String.{String}
use Prim.Native.String as text
use Rattle.sheet.specs.Contents.{read_sheet}
use Rattle.sheet.specs.Answers.{read_as, refusal_in, place_in}

abbrev bytes_of : String → List ℕ
bytes_of text.[] = []
bytes_of (text.◌∷◌ c s) = code c ∷ bytes_of s

pub record Case : Type 0 where
  pub sheet : String
  pub refusal : ℕ
  pub place : ℕ

abbrev pub holds : Case → Bool
holds c =
    let s = bytes_of c.sheet in
    let r = read_as (length s) (read_sheet s) in
    eqb (refusal_in r) c.refusal && eqb (place_in r) c.place

abbrev pub every : List Case → Bool
every [] = true
every (c ∷ cs) = holds c && every cs

abbrev formed : String → Case
formed s = record { sheet = s; refusal = 0; place = 0 }

abbrev malformed : String → ℕ → Case
malformed s n = record { sheet = s; refusal = 14; place = n }

unfoldable pub table : List Case
table =
    formed "1\n12 3 2\n1\n0 1 0 12 0 0\n1\n0 0 11 5\n"
    ∷ formed "0\n0\n0\n"
    ∷ formed "1\n-2147483647 0 2147483647\n0\n0\n"
    -- lower bounds may be negative
    ∷ formed "1\n12 3 2\n1\n0 2 -2 5 -1 -2147483647\n0\n"
    -- an early end gives the length, and nothing may follow the last line
    ∷ malformed "" 0
    ∷ malformed "0\n0\n0" 5
    ∷ malformed "64" 2
    ∷ malformed "0\n0\n0\n\n" 6
    -- a digit after a lone 0; a minus before a count, and before 0
    ∷ malformed "00\n" 1
    ∷ malformed "-" 0
    ∷ malformed "1\n-0 " 3
    -- a size above 2,147,483,647
    ∷ malformed "1\n2147483648 " 11
    ∷ malformed "1\n-2147483648 " 12
    ∷ malformed "1\n21474836470" 12
    -- a count above 64
    ∷ malformed "65\n" 1
    ∷ malformed "70" 1
    -- with no template no array, with no array no section
    ∷ malformed "0\n1\n" 2
    ∷ malformed "0\n0\n1" 4
    ∷ malformed "1\n1 1 1\n0\n1" 10
    -- a name that does not exist
    ∷ malformed "1\n1 1 1\n1\n1" 10
    ∷ malformed "2\n1 1 1\n1 1 1\n1\n1 1 1 1 1 1\n1\n1" 30
    ∷ malformed "2\n1 1 1\n1 1 1\n1\n10" 17
    ∷ malformed "12\n1 1 1\n1 1 1\n1 1 1\n1 1 1\n1 1 1\n1 1 1\n1 1 1\n1 1 1\n1 1 1\n1 1 1\n1 1 1\n1 1 1\n1\n12" 78
    ∷ malformed "12\n1 1 1\n1 1 1\n1 1 1\n1 1 1\n1 1 1\n1 1 1\n1 1 1\n1 1 1\n1 1 1\n1 1 1\n1 1 1\n1 1 1\n1\n11" 79
    -- a blank too many, a number too few, a number too many
    ∷ malformed "1\n1  1" 4
    ∷ malformed "1\n1 1\n" 5
    ∷ malformed "1\n1 1 1 " 7
    -- an array without its last number, and with one too many
    ∷ malformed "1\n1 1 1\n1\n0 1 1 1 1\n" 19
    ∷ malformed "1\n1 1 1\n1\n0 1 1 1 1 1 " 21
    ∷ []
