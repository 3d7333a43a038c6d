-- How a sheet's lines and parts are read. Definitions only.
use Rattle.std.specs.Prelude.{ℕ, zero, suc, ◌≤◌, ◌<◌, List, ℤ, pos, length, get_or}
use Rattle.sheet.specs.declared.Line.{Line}
use Rattle.sheet.specs.declared.part.Part.{Part}
use Rattle.sheet.specs.declared.part.Part.TheVariants.{Templates, Arrays, Sections}
use Rattle.sheet.specs.Reading.{Got, both, via, rows}
use Rattle.sheet.specs.Numbers.{natural, number}

-- ---- lines

-- the byte after a number that m others follow on its line: a blank, and a newline after the last
abbrev pub end_by : ℕ → ℕ
end_by zero = 10
end_by (suc m) = 32

-- a line of a name and at most five numbers: those that it lacks are 0
abbrev pub line_of : ℕ → List ℤ → Line
line_of name l =
    record {
      name = name;
      first = get_or l 0 (pos 0);
      second = get_or l 1 (pos 0);
      third = get_or l 2 (pos 0);
      fourth = get_or l 3 (pos 0);
      fifth = get_or l 4 (pos 0);
    }

-- n numbers to the end of a line
abbrev pub numbers : ℕ → List ℕ → Got (List ℤ)
numbers = rows (λ m. number (end_by m))

-- the same as the line that begins with a name
abbrev pub numbered : ℕ → ℕ → List ℕ → Got Line
numbered n name = via (line_of name) (numbers n)

-- a line that begins with one of some names and goes on with n numbers
abbrev pub named : ℕ → ℕ → List ℕ → Got Line
named names n = via (λ x. x.1) (both (natural 0 names 32) (numbered n))

abbrev pub line : Part → List ℕ → Got Line
line Templates = numbered 3 0
line (Arrays n) = named n 5
line (Sections n) = named n 3

-- ---- parts

-- where there is nothing to name there is no line: the number of lines is below this
abbrev pub limit_by : ℕ → ℕ
limit_by zero = 1
limit_by (suc n) = 65

abbrev pub limit : Part → ℕ
limit Templates = 65
limit (Arrays n) = limit_by n
limit (Sections n) = limit_by n

abbrev pub lines : Part → ℕ → List ℕ → Got (List Line)
lines k = rows (λ m. line k)

abbrev pub part : Part → List ℕ → Got (List Line)
part k = via (λ x. x.1) (both (natural 0 (limit k) 10) (lines k))

-- at most 64 names, and for a line at least one
abbrev pub Room : Part → Type 0
Room Templates = Unit {0}
Room (Arrays n) = n ≤ 64
Room (Sections n) = n ≤ 64

abbrev pub Names : Part → Type 0
Names Templates = Unit {0}
Names (Arrays n) = (0 < n) × (n ≤ 64)
Names (Sections n) = (0 < n) × (n ≤ 64)

-- ---- the three parts

pub record Parts : Type 0 where
  pub templates : List Line
  pub arrays : List Line
  pub sections : List Line

abbrev pub parts : List ℕ → Got Parts
parts =
    via (λ x. record { templates = x.0; arrays = x.1.0; sections = x.1.1 })
    (both (part Templates) (λ ts. both (part (Arrays (length ts))) (λ xs. part (Sections (length xs)))))
