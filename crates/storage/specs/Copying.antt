-- Words copied between the storage and index order: of a cyclic template run by run, of a GEN_BLOCK one all at once. Definitions
-- only.
use Rattle.std.specs.Prelude.{ℕ, ◌+◌, ◌-◌, ◌≤◌, ◌<◌, ◌≡◌, Bool, cond, eqb, min, List, length, get_or, drop}
use Rattle.model.specs.declared.Dealing.{Dealing}
use Rattle.model.specs.declared.Dealing.TheVariants.{Cyclic, GenBlock}
use Rattle.model.specs.declared.Layout.{Layout}
use Rattle.model.specs.Ownership.{owner_of, held}
use Rattle.model.specs.Storages.{storage_start, storage_place, copied}
use Rattle.model.specs.Sized.{Sized}
use Rattle.storage.specs.declared.runs.Pace.{Pace}
use Rattle.storage.specs.declared.runs.Run.{Run}
use Rattle.storage.specs.Pacing.{Paced, Stands}

-- ---- a row of pointers, one for each processor, for any owner of indices

-- where the words of processor q go on, once the elements below i are done: its start, and how many of its elements came before
abbrev pub pointer : (ℕ → ℕ) → ℕ → ℕ → ℕ → ℕ
pointer owner n i q = storage_start owner n q + held owner i q

-- a row has the first p pointers
abbrev pub Points : (ℕ → ℕ) → ℕ → ℕ → ℕ → List ℕ → Type 0
Points owner n p i row = (q : ℕ) → q < p → get_or row q 0 ≡ pointer owner n i q

-- the first m have the starts, before the first element; the others are as they were
pub record StartsIn (l : Layout) (m : ℕ) (row row' : List ℕ) : Type 0 where
  pub starts : (q : ℕ) → q < m → get_or row' q 0 ≡ storage_start (owner_of l) l.size q
  pub others : drop m row' ≡ drop m row
  pub long : length row' ≡ length row

-- ---- words

-- list l after the n words of s from place `at` on were put at the places from `start` on
abbrev pub copied_run : ℕ → ℕ → ℕ → List ℕ → List ℕ → List ℕ
copied_run at start n s l = copied (λ j. at + j) (λ j. start + j) n s l

-- the place that is read and the one that is written of an element, which is the y-th of the storage: loading writes the storage
abbrev pub from_place : Bool → ℕ → ℕ → ℕ
from_place loading i y = cond loading i y

abbrev pub to_place : Bool → ℕ → ℕ → ℕ
to_place loading i y = cond loading y i

abbrev pub from_places : Bool → Layout → ℕ → ℕ
from_places loading l i = from_place loading i (storage_place (owner_of l) l.size i)

abbrev pub to_places : Bool → Layout → ℕ → ℕ
to_places loading l i = to_place loading i (storage_place (owner_of l) l.size i)

-- the words of m elements, from index i on
abbrev pub copied_on : Bool → Layout → ℕ → ℕ → List ℕ → List ℕ → List ℕ
copied_on loading l i m s to = copied (λ j. from_places loading l (i + j)) (λ j. to_places loading l (i + j)) m s to

-- ---- all words of the array

-- an accepted layout, and lists with room for its words
pub record Roomy (l : Layout) (s to : List ℕ) : Type 0 where
  pub sized : Sized l
  pub read : l.size ≤ length s
  pub written : l.size ≤ length to

-- by the dealing; that GEN_BLOCK's storages laid end to end are in index order is a law
abbrev pub copied_by : Bool → Layout → Dealing → List ℕ → List ℕ → List ℕ
copied_by loading l (Cyclic k) s to = copied_on loading l 0 l.size s to
copied_by loading l GenBlock s to = copied_run 0 0 l.size s to

-- ---- some runs

-- how many elements of a run are taken: as far as the array goes, and one where the longest run has one
abbrev pub taken_of : ℕ → Layout → Run → ℕ
taken_of longest l r = cond (eqb longest 1) 1 (min r.length (l.size - r.index.0))

-- all is done below the run's index, and lists have room
pub record Ready (l : Layout) (p : Pace) (r : Run) (row s to : List ℕ) : Type 0 where
  pub sized : Sized l
  pub paced : Paced l p
  pub index : r.index.0 < l.size
  pub stands : Stands l p r
  pub processor : r.processor < l.processors
  pub pointers : Points (owner_of l) l.size l.processors r.index.0 row
  pub row_room : l.processors ≤ length row
  pub read : l.size ≤ length s
  pub written : l.size ≤ length to

-- before the first run
pub record Begins (l : Layout) (row s to : List ℕ) : Type 0 where
  pub sized : Sized l
  pub pointers : Points (owner_of l) l.size l.processors 0 row
  pub row_room : l.processors ≤ length row
  pub read : l.size ≤ length s
  pub written : l.size ≤ length to

-- from one run up to another
pub record Takes (loading : Bool) (l : Layout) (p : Pace) (start r : Run) (s row to row' to' : List ℕ) : Type 0 where
  pub later : start.index.0 < r.index.0
  pub reached : r.index.0 ≤ l.size
  pub stands : r.index.0 < l.size → Stands l p r
  pub pointers : Points (owner_of l) l.size l.processors r.index.0 row'
  pub row-length : length row' ≡ length row
  pub words : to' ≡ copied_on loading l start.index.0 (r.index.0 - start.index.0) s to
