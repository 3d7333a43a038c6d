-- Document 01, "Terms": cells, owners and local addresses; document 02, A1: declared bounds, and A5: GEN_BLOCK. Definitions
-- only.
use Rattle.std.specs.Prelude.{ℕ, zero, suc, ◌+◌, ◌-◌, ◌*◌, ◌/◌, ◌%◌, Bool, cond, List, [], ◌∷◌, map, ltb, eqb, ℤ, pos, negsuc, ◌+ℤ◌, ◌-ℤ◌, ◌*ℤ◌, get_or, take}
use Rattle.numbers.specs.Search.{tally, passing, sum}
use Rattle.model.specs.Mappings.{Dealing, cyclic, gen_block, Mapping}
use Rattle.model.specs.declared.Layout.{Layout}

-- ---- any array: its elements are dealt to processors by an owner of each index

-- does processor q own element i?
unfoldable pub owns : (ℕ → ℕ) → ℕ → ℕ → Bool
owns owner q i = eqb (owner i) q

-- "local address of element i": how many elements of index below i have i's owner
unfoldable pub rank : (ℕ → ℕ) → ℕ → ℕ
rank owner i = tally (owns owner (owner i)) i

-- the elements of processor q among the first n, in rising index
unfoldable pub elements_of : (ℕ → ℕ) → ℕ → ℕ → List ℕ
elements_of owner n q = passing (owns owner q) 0 n

-- how many elements of the first n processor q has
unfoldable pub held : (ℕ → ℕ) → ℕ → ℕ → ℕ
held owner n q = tally (owns owner q) n

-- "going back": the element that processor q and address x lead back to
unfoldable pub back_to : (ℕ → ℕ) → ℕ → ℕ → ℕ → ℕ
back_to owner n q x = get_or (elements_of owner n q) x 0

-- ---- declared bounds

-- a number that is 0 or more, as a natural number; 0 for one below
unfoldable pub nat : ℤ → ℕ
nat (pos n) = n
nat (negsuc n) = zero

-- "declared index j sits on declared cell a·j + b", so on cell a·j + b − Lt: cells count from 0
unfoldable pub cell_under : Mapping → ℤ → ℤ
cell_under m j = m.stride *ℤ j +ℤ m.offset -ℤ m.origin

-- the array's last declared index, La + n − 1, and the template's last declared cell, Lt + T − 1
unfoldable pub last_index : Mapping → ℤ
last_index m = m.lower +ℤ m.size -ℤ pos 1

unfoldable pub last_cell : Mapping → ℤ
last_cell m = m.origin +ℤ m.cells -ℤ pos 1

-- a declared index as one that counts from 0, and back
unfoldable pub from_lower : Mapping → ℤ → ℕ
from_lower m j = nat (j -ℤ m.lower)

unfoldable pub declared_index : Mapping → ℕ → ℤ
declared_index m i = m.lower +ℤ pos i

-- ---- cells

-- k; a GEN_BLOCK template has no block, and 1 stands for it where nothing looks at it
abbrev pub block_in : Dealing → ℤ
block_in (cyclic k) = k
block_in (gen_block sizes left) = pos 1

-- T p k a n as natural numbers, and as offset the first element's cell: elements count from 0
unfoldable pub layout_of : Mapping → Layout
layout_of m = record {
  cells = nat m.cells;
  processors = nat m.processors;
  block = nat (block_in m.dealing);
  stride = nat m.stride;
  offset = nat (cell_under m m.lower);
  size = nat m.size;
}

-- element i sits a·i cells after the first
unfoldable pub cell_of : Layout → ℕ → ℕ
cell_of m i = m.stride * i + m.offset

-- ---- the cyclic dealing

-- "owner of cell c": floor(c / k) mod p
unfoldable pub cell_owner : Layout → ℕ → ℕ
cell_owner m c = c / m.block % m.processors

-- pk, the cells of a course
unfoldable pub course_cells : Layout → ℕ
course_cells m = m.processors * m.block

-- "course": c div pk
unfoldable pub course_of : Layout → ℕ → ℕ
course_of m c = c / course_cells m

-- "column": c mod k
unfoldable pub column_of : Layout → ℕ → ℕ
column_of m c = c % m.block

-- the owner of element i
unfoldable pub owner_of : Layout → ℕ → ℕ
owner_of m i = cell_owner m (cell_of m i)

-- ---- GEN_BLOCK, by the sizes of the processors' runs

-- where the run of processor q starts: "the sum of the sizes before it"
unfoldable pub run_start : List ℕ → ℕ → ℕ
run_start sizes q = sum (take q sizes)

-- the owner of cell c, in whose run it lies: the first run has the cells below its size, and the others those after them
unfoldable pub run_owner : List ℕ → ℕ → ℕ
run_owner [] c = 0
run_owner (n ∷ sizes) c = let r = run_owner sizes (c - n) in cond (ltb c n) 0 (suc r)

-- sizes of an accepted list as natural numbers
abbrev pub run_sizes : List ℤ → List ℕ
run_sizes sizes = map nat sizes

-- ---- by the dealing

-- owner, course and column of cell c: a run is one course, and its columns count from its start
abbrev pub cell_owner_by : Dealing → Layout → ℕ → ℕ
cell_owner_by (cyclic k) l c = cell_owner l c
cell_owner_by (gen_block sizes left) l c = run_owner (run_sizes sizes) c

abbrev pub course_by : Dealing → Layout → ℕ → ℕ
course_by (cyclic k) l c = course_of l c
course_by (gen_block sizes left) l c = 0

abbrev pub column_by : Dealing → Layout → ℕ → ℕ
column_by (cyclic k) l c = column_of l c
column_by (gen_block sizes left) l c = c - run_start (run_sizes sizes) (run_owner (run_sizes sizes) c)

-- the owner of element i
unfoldable pub owner : Mapping → ℕ → ℕ
owner m i = cell_owner_by m.dealing (layout_of m) (cell_of (layout_of m) i)
