-- Document 01, "Section l:h:s", and a processor's list of a section. Definitions only.
use Rattle.std.specs.Prelude.{ℕ, Bool, List, ℤ, pos, ◌+ℤ◌, ◌-ℤ◌, ◌*ℤ◌}
use Rattle.std.specs.Int.Signed.{quot_z}
use Rattle.numbers.specs.Search.{passing, head_or}
use Rattle.model.specs.declared.Triplet.{Triplet}
use Rattle.model.specs.declared.Layout.{Layout}
use Rattle.model.specs.Mappings.{Section}
use Rattle.model.specs.Ownership.{nat, from_lower, layout_of, cell_of, owner, owns, rank}

-- l:h:s as a triplet
abbrev pub triplet_of : ℤ → ℤ → ℤ → Triplet
triplet_of l h s = record { lower = l; upper = h; stride = s }

-- "count": max(0, (h − l + s) / s truncated towards zero)
unfoldable pub count_of : Triplet → ℕ
count_of x = nat (quot_z (x.upper -ℤ x.lower +ℤ x.stride) x.stride)

-- position t holds the element of declared index l + t·s
unfoldable pub element_at : Triplet → ℕ → ℤ
element_at x t = x.lower +ℤ pos t *ℤ x.stride

-- ---- of an array's section

unfoldable pub layout : Section → Layout
layout x = layout_of x.mapping

unfoldable pub count : Section → ℕ
count x = count_of x.triplet

-- the index from 0, the cell and the local address of the element at position t
unfoldable pub index : Section → ℕ → ℕ
index x t = from_lower x.mapping (element_at x.triplet t)

unfoldable pub cell : Section → ℕ → ℕ
cell x t = cell_of (layout x) (index x t)

unfoldable pub address : Section → ℕ → ℕ
address x t = rank (owner x.mapping) (index x t)

-- does processor q own the element at position t?
unfoldable pub owns_at : Section → ℕ → ℕ → Bool
owns_at x q t = owns (owner x.mapping) q (index x t)

-- "a processor's list": the section's elements that it owns, in rising position
unfoldable pub places : Section → ℕ → List ℕ
places x q = passing (owns_at x q) 0 (count x)

-- "first place": the lowest position whose element the processor owns, or the count if none
unfoldable pub first_place : Section → ℕ → ℕ
first_place x q = head_or (count x) (places x q)
