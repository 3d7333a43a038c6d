-- Document 02, A7: an array of any rank, and a section of it, as numbers that count from 0: elements in storage order,
-- processors, and section positions, each "first dimension fastest". Definitions only.
use Rattle.std.specs.Prelude.{ℕ, suc, ◌+◌, ◌-◌, ◌*◌, ◌/◌, ◌%◌, Bool, cond, List, ltb}
use Rattle.numbers.specs.Search.{passing, head_or}
use Rattle.model.specs.Mappings.{Mapping, Section}
use Rattle.model.specs.Ownership.{layout_of, owner, owns, rank}
use Rattle.model.specs.Sections.{count, index}
use Rattle.model.specs.Steps.{cost, next_place}
use Rattle.model.specs.Filling.{Walk}

-- ---- arrays

-- how many processors and elements there are, and the owner of each element
pub record Array : Type 0 where
  pub processors : ℕ
  pub size : ℕ
  pub owner : ℕ → ℕ

abbrev pub array_of : Mapping → Array
array_of m = record { processors = (layout_of m).processors; size = (layout_of m).size; owner = owner m }

-- the number of a pair: x of n, and y
abbrev pub paired : ℕ → ℕ → ℕ → ℕ
paired n x y = x + n * y

-- Two as one, of one dimension more: a pair of elements is "owned by the processor whose coordinates own its indices".
abbrev pub product : Array → Array → Array
product a b = record {
  processors = a.processors * b.processors;
  size = a.size * b.size;
  owner = λ i. paired a.processors (a.owner (i % a.size)) (b.owner (i / a.size));
}

-- ---- sections

-- a section's positions, the element at each, the tries of going on from it, and the place after it
pub record Axis : Type 0 where
  pub array : Array
  pub count : ℕ
  pub element : ℕ → ℕ
  pub cost : ℕ → ℕ
  pub next : ℕ → ℕ

abbrev pub axis_of : Section → Axis
axis_of x = record { array = array_of x.mapping; count = count x; element = index x; cost = cost x; next = next_place x }

-- does processor q own the element at position t?
unfoldable pub owns_on : Axis → ℕ → ℕ → Bool
owns_on a q t = owns a.array.owner q (a.element t)

-- "a processor's list": the positions it owns, rising
unfoldable pub places_on : Axis → ℕ → List ℕ
places_on a q = passing (owns_on a q) 0 a.count

-- its first place, or the count if there is none
unfoldable pub first_on : Axis → ℕ → ℕ
first_on a q = head_or a.count (places_on a q)

-- the next position after t that processor q owns, or the count
unfoldable pub later_on : Axis → ℕ → ℕ → ℕ
later_on a q t = head_or a.count (passing (owns_on a q) (suc t) (a.count - suc t))

-- a fill goes on while 3 tries are left
abbrev pub walk_on : Axis → Walk
walk_on a = record { address = λ t. rank a.array.owner (a.element t); cost = a.cost; next = a.next; count = a.count; least = 3 }

-- ---- rows: for each position of the second, one row of the positions of the first

-- the next place in row r after one whose walk goes on to u: inside the row; or, where that is the row's end, processor q's
-- "first in the next row it owns, or the count"
abbrev pub next_from : Axis → Axis → ℕ → ℕ → ℕ → ℕ
next_from a b q r u =
    let later = later_on b (b.array.owner (b.element r)) r in
    let row = cond (ltb later b.count) (paired a.count (first_on a q) later) (a.count * b.count) in
    cond (ltb u a.count) (paired a.count u r) row

unfoldable pub next_in_rows : Axis → Axis → ℕ → ℕ
next_in_rows a b t =
    let u : ℕ = t % a.count in
    next_from a b (a.array.owner (a.element u)) (t / a.count) (a.next u)

-- "an element's cost is that of the first dimension's walk from it, the last of each row too"
abbrev pub rows : Axis → Axis → Axis
rows a b = record {
  array = product a.array b.array;
  count = a.count * b.count;
  element = λ t. paired a.array.size (a.element (t % a.count)) (b.element (t / a.count));
  cost = λ t. a.cost (t % a.count);
  next = next_in_rows a b;
}
