-- Fills along a walk whose address moves by what depends on the step and on the column's rest by a period: each move is learnt
-- when it is first made, and kept in a table by columns or in one by classes of columns, where 0 stands for a move that is not
-- known. Definitions only.
use Rattle.std.specs.Prelude.{ℕ, ◌+◌, ◌-◌, ◌*◌, ◌/◌, ◌%◌, ◌≤◌, ◌<◌, ◌≡◌, Bool, true, false, cond, List, ◌⊎◌, ltb, eqb, length, get_or}
use Rattle.numbers.specs.Words.{words_of}
use Rattle.model.specs.Ownership.{rank, owner_of}
use Rattle.model.specs.Sized.{Sized}
use Rattle.model.specs.Filling.{Walk, fill_by}
use Rattle.model.specs.ByteFills.{store_entry}
use Rattle.walk.specs.declared.moves.Moves.{Moves}
use Rattle.walk.specs.declared.moves.State.{State}
use Rattle.walk.specs.declared.moves.Made.{Made}
use Rattle.walk.specs.declared.moves.Report.{Report}
use Rattle.walk.specs.declared.learning.Elements.{Elements}
use Rattle.walk.specs.declared.learning.Task.{Task}
use Rattle.walk.specs.Moving.{move_from, moved_by, stop_at, Small, Sound}
use Rattle.walk.specs.Bursts.{Bursted, Starts}
use Rattle.walk.specs.Driving.{Paces, Stands, ByteFilled}

-- n above i, or below it
abbrev pub shifted : Bool → ℕ → ℕ → ℕ
shifted true i n = i + n
shifted false i n = i - n

-- the element at a place, and its local address
unfoldable pub element_at : Elements → ℕ → ℕ
element_at e t = shifted e.upward e.first.0 (t * e.stride)

unfoldable pub address_at : Elements → ℕ → ℕ
address_at e t = rank (owner_of e.layout) (element_at e t)

-- each place below the count has an element of the array
pub record Placed (e : Elements) (count : ℕ) : Type 0 where
  pub sized : Sized e.layout
  pub few : count < 2147483648
  pub stride : e.stride < 2147483648
  pub falls : e.upward ≡ false → (t : ℕ) → t < count → t * e.stride ≤ e.first.0
  pub inside : (t : ℕ) → t < count → element_at e t < e.layout.size

-- Columns that lie one alignment stride apart in a block move alike along each step. A shorter block has no such columns.
unfoldable pub period_of : Elements → ℕ
period_of e = cond (ltb e.layout.stride e.layout.block) e.layout.stride e.layout.block

-- the class of column q, by which a move from it is learnt: its rest by the period, and the step, told by its tries
abbrev pub class_of : Elements → Moves → ℕ → ℕ
class_of e m q = q % period_of e * 4 + (move_from m q).tries

-- what is added modulo 2^32 to come from address a to that of place t; past the count nothing is
abbrev pub move_to : Elements → ℕ → ℕ → ℕ → ℕ
move_to e count t a = cond (ltb t count) ((address_at e t + (4294967296 - a)) % 4294967296) 0

-- a state with the address that lies so much after a
abbrev pub moved : State → ℕ → ℕ → State
moved s a add = record { column = s.column; address = record { 0 = (a + add) % 4294967296 }; place = s.place; paid = s.paid }

-- the state after a turn that adds so much
abbrev pub turn_by : Moves → ℕ → State → ℕ → State
turn_by m count s add = stop_at count (moved_by (move_from m s.column) add s)

-- what a turn finds that is to be added
abbrev pub found_add : Task → State → ℕ
found_add f s = move_to f.elements f.count (s.place.0 + (move_from f.moves s.column).places) s.address.0

-- ---- with a table by classes

-- from address a on to place t, by the move of class c, if the table has it
abbrev pub class_move : Elements → ℕ → List ℕ → ℕ → ℕ → ℕ → ℕ
class_move e count classes c t a = cond (eqb (get_or classes c 0) 0) (move_to e count t a) (get_or classes c 0)

abbrev pub class_add : Task → List ℕ → State → ℕ
class_add f classes s =
    class_move f.elements f.count classes (class_of f.elements f.moves s.column) (s.place.0 + (move_from f.moves s.column).places) s.address.0

-- ---- with a table by columns

-- what a column's entry is after a move was entered for columns as P says: as it was, or the move
abbrev pub OldOrNew : (ℕ → Type 0) → ℕ → List ℕ → List ℕ → Type 0
OldOrNew P add table table' = (x : ℕ) → (get_or table' x 0 ≡ get_or table x 0) ⊎ ((get_or table' x 0 ≡ add) × P x)

-- A move from column q entered for columns of its class alone. For how many is left open: a column that is not known only
-- costs a search.
pub record Entered (e : Elements) (m : Moves) (q add : ℕ) (columns columns' : List ℕ) : Type 0 where
  pub same : length columns' ≡ length columns
  pub each : OldOrNew (λ x. class_of e m x ≡ class_of e m q) add columns columns'

-- what is known of column q, or 0
abbrev pub known_in : List ℕ → ℕ → ℕ
known_in columns q = get_or columns q 0

-- a turn that is made by what is known
abbrev pub Known : ℕ → List ℕ → State → Type 0
Known count columns s = (s.place.0 < count) × (known_in columns s.column ≡ 0 → ⊥)

-- a state from which a fill goes on
pub record Goes (f : Task) (s : State) : Type 0 where
  pub placed : Placed f.elements f.count
  pub small : Small f.moves
  pub sound : Sound f.moves s
  pub few : f.count < 2147483648
  pub low : f.quota < 2147483648
  pub place : s.place.0 < f.count
  pub paid : s.paid + 3 ≤ f.quota

-- The next turns, of which n are made already: a burst by what is known, or one that learns. The table and the bytes
-- afterwards, and what was made.
pub data Advances (f : Task) (columns : List ℕ) (s : State) (n : ℕ) (bs : List ℕ) : List ℕ → List ℕ → Made → Type 0 where
  by-known : {bs' : List ℕ} {r : Made} (most : ℕ) → s.paid + 3 * most ≤ f.quota → n + most ≤ length bs / 4
      → Bursted store_entry f.moves (known_in columns) (Known f.count columns) s n most bs bs' r
      → Advances f columns s n bs columns bs' (record { state = stop_at f.count r.state; turns = r.turns })
  by-learning : {columns' : List ℕ} → Entered f.elements f.moves s.column (found_add f s) columns columns'
      → Advances f columns s n bs columns' (store_entry bs n s.address.0) (record { state = turn_by f.moves f.count s (found_add f s); turns = 1 })

-- a state from which it starts
abbrev pub Begins : Task → State → Type 0
Begins f s = Placed f.elements f.count × Starts f.moves f.count f.quota s

-- ---- which walks such moves go along

-- The moves go along the walk, whose addresses are those of the elements, and by one step from columns with one rest they move
-- alike.
pub record Even (w : Walk) (m : Moves) (e : Elements) : Type 0 where
  pub paces : Paces w m
  pub address : (t : ℕ) → t < w.count → paces.mine t ≡ true → w.address t ≡ address_at e t
  pub alike : (t u : ℕ) → t < w.count → u < w.count → paces.mine t ≡ true → paces.mine u ≡ true
      → (move_from m (paces.column t)).tries ≡ (move_from m (paces.column u)).tries → paces.column t % period_of e ≡ paces.column u % period_of e
      → t + (move_from m (paces.column t)).places < w.count → u + (move_from m (paces.column u)).places < w.count
      → w.address (t + (move_from m (paces.column t)).places) + w.address u
      ≡ w.address (u + (move_from m (paces.column u)).places) + w.address t

-- as `FillsBytes`, of such walks
abbrev pub FillsBytesEven : Task → State → List ℕ → List ℕ → Report → Type 0
FillsBytesEven f s bs bs' r =
    (w : Walk) → w.count ≡ f.count → (d : Even w f.moves f.elements) → Stands w f.moves d.paces s
    → ByteFilled (fill_by w s.place.0 f.quota (words_of 4 bs)) bs bs' r
