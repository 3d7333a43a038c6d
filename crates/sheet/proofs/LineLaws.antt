-- A line of the sheet, from its numbers in their rows.
use Prim.Native.Nat.{ℕ, ◌-◌, ◌≤◌}
use mathlib.Core.Path.{◌≡◌, sym, ◌∙◌, ap}
use mathlib.Core.List.{List, ◌++◌}
use lib.IntN.{ℤ, pos}
use lib.ListN.{take, replicate, take-append-drop}
use Rattle.sheet.specs.declared.Line.{Line}
use Rattle.sheet.specs.Reading.{Got, got, map_got}
use Rattle.sheet.specs.Numbers.{number}
use Rattle.sheet.specs.Parts.{end_by, line_of}
use Rattle.sheet.proofs.RowLaws.{Filling, all_read, rest-none, kept_row}

-- the numbers of a line in their rows
abbrev pub NumberRows : ℕ → Got (List ℤ) → List ℤ → List ℕ → ℕ → Type 0
NumberRows = Filling (pos 0) 5 (λ m. number (end_by m))

-- the numbers that a line lacks are 0
padded-line : (name : ℕ) (l : List ℤ) (k : ℕ) → line_of name (l ++ replicate k (pos 0)) ≡ line_of name l
padded-line name l k =
    λ i. record {
      name = name;
      first = kept_row (pos 0) l k 0 i;
      second = kept_row (pos 0) l k 1 i;
      third = kept_row (pos 0) l k 2 i;
      fourth = kept_row (pos 0) l k 3 i;
      fifth = kept_row (pos 0) l k 4 i;
    }

pub line_read : (name : ℕ) {s : List ℕ} {n i : ℕ} {y : Got (List ℤ)} {v : List ℤ} → NumberRows n y v s i → n ≤ i
    → got (line_of name v) s ≡ map_got (line_of name) y
line_read name {s} {n} {v = v} f h =
    ap (λ (x : Line). got x s) (sym same) ∙ ap (map_got (line_of name)) (all_read _ _ _ _ f h)
  where
    same : line_of name (take n v) ≡ line_of name v
    same =
        sym (padded-line name (take n v) (5 - n))
        ∙ ap (line_of name) (ap (λ (l : List ℤ). take n v ++ l) (sym (rest-none _ _ _ _ f h)) ∙ take-append-drop n v)
