-- Fills by rows: where a fill stands, what a turn of it gives, and a row that is known whole. Definitions only.
use Rattle.std.specs.Prelude.{ℕ, ◌+◌, ◌-◌, ◌*◌, ◌/◌, ◌≤◌, ◌<◌, ◌≡◌, true, cond, List, ◌++◌, map, ltb, length, take, drop, Option, Some, None}
use Rattle.numbers.specs.Words.{words_of}
use Rattle.model.specs.Mappings.{Section}
use Rattle.model.specs.Ownership.{held}
use Rattle.model.specs.Questions.{first_no, of_section}
use Rattle.model.specs.Filling.{Walk, on_base, Filled, fill_by}
use Rattle.model.specs.ByteFills.{store_entries}
use Rattle.model.specs.Axes.{paired, Axis, axis_of, owns_on, first_on, walk_on}
use Rattle.model.specs.Grids.{GridSection, sections_of, grid_axis, of_grid_section}
use Rattle.section.specs.declared.shares.Share.{Share}
use Rattle.section.specs.Shares.{share_of}
use Rattle.walk.specs.declared.moves.Report.{Report}
use Rattle.walk.specs.Driving.{ByteFilled}
use Rattle.fill.specs.Ways.{WayOf}
use Rattle.grid_fill.specs.Entries.{AllLow}
use Rattle.grid_fill.specs.declared.rows.RowPlan.{RowPlan}
use Rattle.model.specs.declared.three.Three.{Three}
use Rattle.model.specs.declared.Position.{Position}
use Rattle.grid_fill.specs.declared.turns.Whole.{Whole}
use Rattle.grid_fill.specs.declared.turns.Turn.{Turn}

-- ---- one row

-- whatever accepted section it is, the bytes are those after the fill along its walk on a base
abbrev pub RowFilled : Share → ℕ → ℕ → ℕ → List ℕ → List ℕ → Report → Type 0
RowFilled s t base quota bs bs' r =
    (x : Section) → first_no (of_section x) ≡ 0 → s ≡ share_of x s.processor
    → ByteFilled (fill_by (on_base base (walk_on (axis_of x))) t quota (words_of 4 bs)) bs bs' r

-- the first place of the row after one
abbrev pub entering_at : RowPlan → ℕ → ℕ → ℕ → Three Position
entering_at p u v next =
    cond (ltb u p.shares.second.section.count) (record { first = p.enter; second = record { 0 = u }; third = record { 0 = v } })
    (record { first = p.enter; second = p.row; third = record { 0 = next } })

-- ---- a plan

-- the share is coordinate q's of a section
pub record ShareIn (x : Section) (s : Share) : Type 0 where
  pub share : s ≡ share_of x s.processor
  pub processor : s.processor < s.section.layout.processors

abbrev pub held_on : Section → ℕ → ℕ
held_on x q = held (axis_of x).array.owner (axis_of x).array.size q

-- it is one for a grid processor of an accepted section
pub record PlanOf (p : RowPlan) (x : GridSection) : Type 0 where
  pub accepted : first_no (of_grid_section x) ≡ 0
  pub first : ShareIn (sections_of x).first p.shares.first
  pub second : ShareIn (sections_of x).second p.shares.second
  pub third : ShareIn (sections_of x).third p.shares.third
  pub first_way : WayOf p.shares.first p.ways.first
  pub second_way : WayOf p.shares.second p.ways.second
  pub third-way : WayOf p.shares.third p.ways.third
  pub elements : p.elements ≡ held_on (sections_of x).first p.shares.first.processor
  pub rows : p.rows ≡ held_on (sections_of x).second p.shares.second.processor
  pub few : p.rows ≤ 2147483647
  pub enter : p.enter.0 ≡ first_on (axis_of (sections_of x).first) p.shares.first.processor
  pub row : p.row.0 ≡ first_on (axis_of (sections_of x).second) p.shares.second.processor

-- ---- where a fill stands

-- t is a position of the axis that q owns
abbrev pub On : Axis → ℕ → ℕ → Type 0
On a q t = (t < a.count) × (owns_on a q t ≡ true)

-- at a place of the processor, or, with the third dimension's count, at the end
pub record Standing (x : GridSection) (p : RowPlan) (at : Three Position) : Type 0 where
  pub within : at.third.0 ≤ (axis_of (sections_of x).third).count
  pub first : at.third.0 < (axis_of (sections_of x).third).count → On (axis_of (sections_of x).first) p.shares.first.processor at.first.0
  pub second : at.third.0 < (axis_of (sections_of x).third).count → On (axis_of (sections_of x).second) p.shares.second.processor at.second.0
  pub third : at.third.0 < (axis_of (sections_of x).third).count → On (axis_of (sections_of x).third) p.shares.third.processor at.third.0

-- its position
abbrev pub place_of : GridSection → Three Position → ℕ
place_of x at =
    let m : ℕ = (axis_of (sections_of x).first).count in
    let n : ℕ = (axis_of (sections_of x).second).count in
    let o : ℕ = (axis_of (sections_of x).third).count in
    cond (ltb at.third.0 o) (paired m at.first.0 (paired n at.second.0 at.third.0)) (m * (n * o))

abbrev pub grid_walk : GridSection → Walk
grid_walk x = walk_on (grid_axis (sections_of x))

-- ---- turns

-- the fill from place t of the list l is e entries, for c tries, which stand in the list l', and the fill from place u of what
-- is left of it
abbrev pub Goes : Walk → ℕ → ℕ → List ℕ → ℕ → ℕ → ℕ → List ℕ → Type 0
Goes w t quota l e c u l' =
    let r : Filled = fill_by w u (quota - c) (drop e l') in
    fill_by w t quota l ≡ record { entries = e + r.entries; tries = c + r.tries; place = r.place; list = take e l' ++ r.list }

-- a row that stands whole in the list, before entry n: where, how many entries and tries it has, and how high it lies
pub record Stored (x : GridSection) (p : RowPlan) (bs : List ℕ) (n : ℕ) (w : Whole) : Type 0 where
  pub before : w.from + w.entries ≤ n
  pub base : w.base < 2147483648
  pub addresses : List ℕ
  pub long : length addresses ≡ w.entries
  pub words : take w.entries (drop w.from (words_of 4 bs)) ≡ map (λ (z : ℕ). w.base + z) addresses
  pub low : AllLow addresses
  pub again :
      (quota : ℕ) (l : List ℕ) → w.tries + 2 ≤ quota → w.entries ≤ length l
      → fill_by (walk_on (axis_of (sections_of x).first)) p.enter.0 quota l
      ≡ record { entries = w.entries; tries = w.tries; place = (axis_of (sections_of x).first).count; list = addresses ++ drop w.entries l }

-- if there is one
abbrev pub Known : GridSection → RowPlan → List ℕ → ℕ → Option Whole → Type 0
Known x p bs n None = Unit {0}
Known x p bs n (Some w) = Stored x p bs n w

-- what a turn gives from where the fill stands, with so many tries left and n entries written
pub record Turned (x : GridSection) (p : RowPlan) (at : Three Position) (quota n : ℕ) (bs bs' : List ℕ) (t : Turn) : Type 0 where
  pub some : 0 < t.entries
  pub room : n + t.entries ≤ length bs / 4
  pub tries : t.tries ≤ quota
  pub stands : Standing x p t.stand
  pub goes : Goes (grid_walk x) (place_of x at) quota (drop n (words_of 4 bs)) t.entries t.tries (place_of x t.stand) (drop n (words_of 4 bs'))
  pub stored : bs' ≡ store_entries bs n (take t.entries (drop n (words_of 4 bs')))
  pub before : take n (words_of 4 bs') ≡ take n (words_of 4 bs)
  pub known : Known x p bs' (n + t.entries) t.whole
