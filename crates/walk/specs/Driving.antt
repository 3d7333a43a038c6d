-- Which walks the moves drive, and what a fill by them gives. Definitions only.
use Rattle.std.specs.Prelude.{ℕ, ◌+◌, ◌%◌, ◌<◌, ◌≡◌, Bool, true, List, take}
use Rattle.numbers.specs.Words.{words_of}
use Rattle.model.specs.Filling.{Walk, Filled, fill_by}
use Rattle.model.specs.ByteFills.{store_entries}
use Rattle.walk.specs.declared.moves.Moves.{Moves}
use Rattle.walk.specs.declared.moves.State.{State}
use Rattle.walk.specs.declared.moves.Report.{Report}
use Rattle.walk.specs.Moving.{move_from, at_most}

-- The moves go along the walk w: each place of the processor has a column, counted in walking direction, from which the move
-- has the walk's cost and leads to its next place; where that is one of the walk, it is the processor's too, in the column
-- that the move says. To go on, 3 tries must be left.
pub record Paces (w : Walk) (m : Moves) : Type 0 where
  pub column : ℕ → ℕ
  pub mine : ℕ → Bool
  pub least : w.least ≡ 3
  pub cost : (t : ℕ) → t < w.count → mine t ≡ true → w.cost t ≡ (move_from m (column t)).tries
  pub next : (t : ℕ) → t < w.count → mine t ≡ true → w.next t ≡ at_most w.count (t + (move_from m (column t)).places)
  pub same : (t : ℕ) → t < w.count → mine t ≡ true → t + (move_from m (column t)).places < w.count
      → mine (t + (move_from m (column t)).places) ≡ true
  pub columns : (t : ℕ) → t < w.count → mine t ≡ true → t + (move_from m (column t)).places < w.count
      → column (t + (move_from m (column t)).places) ≡ (move_from m (column t)).column

-- They drive it where the address moves by what is added too, modulo 2^32.
pub record Drives (w : Walk) (m : Moves) : Type 0 where
  pub paces : Paces w m
  pub address : (t : ℕ) → t < w.count → paces.mine t ≡ true → t + (move_from m (paces.column t)).places < w.count
      → w.address (t + (move_from m (paces.column t)).places) ≡ (w.address t + (move_from m (paces.column t)).add) % 4294967296

-- a state stands at its place, if that is one of the walk
pub record Stands (w : Walk) (m : Moves) (p : Paces w m) (s : State) : Type 0 where
  pub column : s.place.0 < w.count → s.column ≡ p.column s.place.0
  pub address : s.place.0 < w.count → s.address.0 ≡ w.address s.place.0
  pub mine : s.place.0 < w.count → p.mine s.place.0 ≡ true

-- A list of bytes after the fill f of its words: what is reported is f's, and each address that f wrote is stored, and nothing
-- else.
pub record ByteFilled (f : Filled) (bs bs' : List ℕ) (r : Report) : Type 0 where
  pub entries : r.entries ≡ f.entries
  pub tries : r.tries ≡ f.tries
  pub place : r.place.0 ≡ f.place
  pub bytes : bs' ≡ store_entries bs 0 (take f.entries f.list)

-- Whatever walk to that count the moves drive, the bytes are those after the fill from a state that stands in it.
abbrev pub FillsBytes : Moves → ℕ → ℕ → State → List ℕ → List ℕ → Report → Type 0
FillsBytes m count quota s bs bs' r =
    (w : Walk) → w.count ≡ count → (d : Drives w m) → Stands w m d.paces s
    → ByteFilled (fill_by w s.place.0 quota (words_of 4 bs)) bs bs' r
