-- Turns of a fill by rows. Definitions only.
use Rattle.std.specs.Prelude.{ℕ, zero, suc, ◌+◌, ◌-◌, ◌*◌, ◌/◌, ◌%◌, ◌≤◌, ◌<◌, ◌≡◌, cond, List, eqb, ltb, length, get_or, take, drop, Option, None}
use Rattle.std.specs.Bool.{then_some}
use Rattle.numbers.specs.Words.{words_of}
use Rattle.model.specs.Filling.{fill_by}
use Rattle.model.specs.ByteFills.{store_entries}
use Rattle.model.specs.Axes.{paired}
use Rattle.model.specs.Grids.{GridSection}
use Rattle.walk.specs.declared.moves.Report.{Report}
use Rattle.walk.specs.Driving.{ByteFilled}
use Rattle.grid_fill.specs.declared.rows.RowPlan.{RowPlan}
use Rattle.model.specs.declared.three.Three.{Three}
use Rattle.model.specs.declared.Position.{Position}
use Rattle.grid_fill.specs.declared.turns.Whole.{Whole}
use Rattle.grid_fill.specs.declared.turns.Turn.{Turn}
use Rattle.grid_fill.specs.declared.filling.Ended.{Ended}
use Rattle.grid_fill.specs.Entries.{higher}
use Rattle.grid_fill.specs.Rows.{entering_at, PlanOf, Standing, place_of, grid_walk, Stored, Known, Turned}

-- ---- one row

-- after the fill r of a row that lies so high, from entry n on
abbrev pub turn_after : RowPlan → Three Position → ℕ → ℕ → Report → ℕ → ℕ → Turn
turn_after p at next up r n base =
    cond (ltb r.place.0 p.shares.first.section.count)
    (record {
      stand = record { first = r.place; second = at.second; third = at.third };
      whole = None;
      entries = r.entries;
      tries = r.tries;
    })
    (record {
      stand = entering_at p next at.third.0 up;
      whole = then_some (eqb at.first.0 p.enter.0) (record { from = n; entries = r.entries; tries = r.tries; base = base });
      entries = r.entries;
      tries = r.tries;
    })

-- a fill that goes on from where it stands, in a list of so many bytes
pub record Begun (p : RowPlan) (at : Three Position) (long quota n : ℕ) : Type 0 where
  pub source : GridSection
  pub planned : PlanOf p source
  pub stands : Standing source p at
  pub going : at.third.0 < p.shares.third.section.count
  pub least : 3 ≤ quota
  pub most : quota ≤ 1000000
  pub room : n < long / 4

-- ---- copies of a row

-- how high row j lies, whose address in its dimension stands in a list
abbrev pub base_at : ℕ → ℕ → ℕ → List ℕ → ℕ → ℕ
base_at elements rows plane addresses j = elements * (get_or (words_of 4 addresses) j 0 + rows * plane)

-- the list after so many copies of a row, one after another from entry n on
unfoldable pub put_rows : (ℕ → ℕ) → Whole → List ℕ → ℕ → ℕ → List ℕ
put_rows base w bs n zero = bs
put_rows base w bs n (suc j) =
    let l : List ℕ = put_rows base w bs n j in
    store_entries l (n + j * w.entries) (higher ((base j + (4294967296 - w.base)) % 4294967296) (take w.entries (drop w.from (words_of 4 l))))

-- what copies ask of numbers: there is room, and no row lies too high
pub record Copies (elements rows plane : ℕ) (addresses : List ℕ) (w : Whole) (count long n : ℕ) : Type 0 where
  pub some : 0 < w.entries
  pub before : w.from + w.entries ≤ n
  pub base : w.base < 2147483648
  pub listed : count ≤ length addresses / 4
  pub room : n + count * w.entries ≤ long / 4
  pub few-rows : rows ≤ 2147483647
  pub plane-low : plane ≤ 2147483647
  pub low : (j : ℕ) → j < count → base_at elements rows plane addresses j < 2147483648

-- so many copies of a row from where the fill stands, which is a row's first place
pub record Copying (p : RowPlan) (at : Three Position) (w : Whole) (count long n : ℕ) : Type 0 where
  pub enters : at.first.0 ≡ p.enter.0
  pub before : w.from + w.entries ≤ n
  pub base : w.base < 2147483648
  pub some : 0 < count
  pub most : count ≤ 64
  pub entries : 0 < w.entries
  pub room : n + count * w.entries ≤ long / 4
  pub tries : count * w.tries ≤ 1000000

-- the turn that copies of a row make, if it is one that stands whole and there are tries enough for all
abbrev pub Copied : RowPlan → Three Position → Whole → ℕ → ℕ → List ℕ → List ℕ → Turn → Type 0
Copied p at w count n bs bs' t =
    (x : GridSection) → PlanOf p x → Standing x p at → Stored x p bs n w → (quota : ℕ) → count * w.tries + 2 ≤ quota → Turned x p at quota n bs bs' t

-- a fill that goes on from where it stands, with the row that is known whole
pub record Going (p : RowPlan) (at : Three Position) (whole : Option Whole) (quota n : ℕ) (bs : List ℕ) : Type 0 where
  pub begun : Begun p at (length bs) quota n
  pub known : Known begun.source p bs n whole

-- ---- the whole fill

-- the position of a stand, by the shares' counts
abbrev pub place_in : RowPlan → Three Position → ℕ
place_in p at =
    let m : ℕ = p.shares.first.section.count in
    let n : ℕ = p.shares.second.section.count in
    let o : ℕ = p.shares.third.section.count in
    cond (ltb at.third.0 o) (paired m at.first.0 (paired n at.second.0 at.third.0)) (m * (n * o))

-- it is one of an accepted section
pub record Lined (p : RowPlan) (at : Three Position) : Type 0 where
  pub source : GridSection
  pub planned : PlanOf p source
  pub stands : Standing source p at

-- a fill that passed its questions
pub record Started (p : RowPlan) (start : Three Position) (quota : ℕ) : Type 0 where
  pub source : GridSection
  pub planned : PlanOf p source
  pub stands : Standing source p start
  pub least : 3 ≤ quota
  pub most : quota ≤ 1000000

-- whatever accepted section it was, the bytes are those after the fill along its walk
abbrev pub FillsRows : RowPlan → Three Position → ℕ → List ℕ → List ℕ → Report → Type 0
FillsRows p start quota bs bs' r =
    (x : GridSection) → PlanOf p x → Standing x p start
    → ByteFilled (fill_by (grid_walk x) (place_of x start) quota (words_of 4 bs)) bs bs' r

-- what the turns came to
abbrev pub FillsTurns : RowPlan → Three Position → ℕ → List ℕ → List ℕ → Ended → Type 0
FillsTurns p start quota bs bs' e =
    (x : GridSection) → PlanOf p x → Standing x p start
    → Standing x p e.stand
    × ByteFilled (fill_by (grid_walk x) (place_of x start) quota (words_of 4 bs)) bs bs'
    (record { entries = e.entries; tries = e.tries; place = record { 0 = place_in p e.stand } })
