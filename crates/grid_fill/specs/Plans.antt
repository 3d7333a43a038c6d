-- The shares of a grid processor that a fill by rows is planned from, and the place where it starts. Definitions only.
use Rattle.std.specs.Prelude.{ℕ, ◌≤◌, ◌<◌, ◌≡◌, true}
use Rattle.model.specs.Questions.{first_no}
use Rattle.model.specs.Grids.{GridSection, sections_of, of_grid_section}
use Rattle.model.specs.declared.three.Three.{Three}
use Rattle.section.specs.declared.shares.Share.{Share}
use Rattle.grid_section.specs.Shares.{positions_in, owned_on}
use Rattle.grid_fill.specs.declared.rows.RowPlan.{RowPlan}
use Rattle.grid_fill.specs.Rows.{ShareIn, held_on, PlanOf}

-- they are shares of an accepted section, and so many elements and rows are what their processor has of the array
pub record SourceOf (s : Three Share) (elements rows : ℕ) (x : GridSection) : Type 0 where
  pub accepted : first_no (of_grid_section x) ≡ 0
  pub first : ShareIn (sections_of x).first s.first
  pub second : ShareIn (sections_of x).second s.second
  pub third : ShareIn (sections_of x).third s.third
  pub elements-are : elements ≡ held_on (sections_of x).first s.first.processor
  pub rows_are : rows ≡ held_on (sections_of x).second s.second.processor

pub record Sourced (s : Three Share) (elements rows : ℕ) : Type 0 where
  pub source : GridSection
  pub shares : SourceOf s elements rows source

-- t is the count, or a position that the processor owns
pub record PlaceIn (s : Three Share) (t : ℕ) : Type 0 where
  pub within : t ≤ positions_in s
  pub owned : t < positions_in s → owned_on s t ≡ true

-- a fill by the plan from there
pub record Entered (p : RowPlan) (t : ℕ) : Type 0 where
  pub source : GridSection
  pub planned : PlanOf p source
  pub place : PlaceIn p.shares t
