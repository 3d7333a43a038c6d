-- Document 01, "Questions, in order": 1 to 11, and document 02's 15 between the halves of 5, and 16 in the place of 3.
-- Definitions only.
use Rattle.std.specs.Prelude.{ℕ, ◌-◌, ◌≡◌, Bool, true, not, cond, ◌&&◌, ◌||◌, List, [], ◌∷◌, ◌++◌, leb, ltb, eqb, ℤ, pos, negsuc, nat_abs, length}
use Rattle.std.specs.Int.Signed.{le_z, lt_z}
use Rattle.numbers.specs.Search.{sum}
use Rattle.model.specs.Mappings.{Dealing, cyclic, gen_block, Mapping, Section}
use Rattle.model.specs.declared.Triplet.{Triplet}
use Rattle.model.specs.Ownership.{nat, cell_under, last_index, last_cell, run_sizes, owner, held}
use Rattle.model.specs.Sections.{element_at, count, owns_at}

pub record Question : Type 0 where
  pub number : ℕ
  pub holds : Bool

abbrev pub ask : ℕ → Bool → Question
ask n b = record { number = n; holds = b }

-- a call "stops at the first no": the number of that question, or 0
unfoldable pub first_no : List Question → ℕ
first_no [] = 0
first_no (q ∷ qs) = let r = first_no qs in cond q.holds r q.number

-- every question is answered yes
abbrev pub AllYes : List Question → Type 0
AllYes [] = Unit {0}
AllYes (q ∷ qs) = (q.holds ≡ true) × AllYes qs

unfoldable pub between : ℤ → ℤ → ℤ → Bool
between low high z = le_z low z && le_z z high

-- is z from 0 to n − 1?
abbrev pub is_below : ℤ → ℤ → Bool
is_below n z = le_z (pos 0) z && lt_z z n

-- 2,147,483,647 and its negative
abbrev pub most : ℤ
most = pos 2147483647

abbrev pub least : ℤ
least = negsuc 2147483646

-- 4: the largest alignment stride
abbrev pub most_stride : ℕ
most_stride = 4096

-- 3, of a cyclic template's block; "3 does not concern" a GEN_BLOCK template
abbrev pub block_fits : Dealing → Bool
block_fits (cyclic k) = between (pos 1) (pos 65536) k
block_fits (gen_block sizes left) = true

-- is each size 0 or more?
abbrev pub each_natural : List ℤ → Bool
each_natural [] = true
each_natural (z ∷ zs) = le_z (pos 0) z && each_natural zs

-- is the list p entries long, each 0 or more, with a sum of at least T? "Bytes left over make it one of another length"
unfoldable pub sizes_fit : ℤ → ℤ → List ℤ → ℕ → Bool
sizes_fit cells processors sizes left =
    eqb (length sizes) (nat processors) && eqb left 0 && each_natural sizes && leb (nat cells) (sum (run_sizes sizes))

-- 16, of a GEN_BLOCK template's list; it "does not concern a cyclic one"
abbrev pub runs_fit : ℤ → ℤ → Dealing → Bool
runs_fit cells processors (cyclic k) = true
runs_fit cells processors (gen_block sizes left) = sizes_fit cells processors sizes left

-- 15: are the lower bounds, the template's last declared cell and, if n is at least 1, the array's last declared index in
-- range?
unfoldable pub bounds_fit : Mapping → Bool
bounds_fit m =
    between least most m.lower && between least most m.origin && between least most (last_cell m)
    && (lt_z m.size (pos 1) || between least most (last_index m))

-- 5, second half: if n is at least 1, is the first element's cell 0 or more, and the last one's below T?
unfoldable pub cells_fit : Mapping → Bool
cells_fit m =
    lt_z m.size (pos 1) || (le_z (pos 0) (cell_under m m.lower) && lt_z (cell_under m (last_index m)) m.cells)

abbrev pub of_mapping : Mapping → List Question
of_mapping m =
    ask 1 (between (pos 1) most m.cells)
    ∷ ask 2 (between (pos 1) (pos 1024) m.processors)
    ∷ ask 3 (block_fits m.dealing)
    ∷ ask 16 (runs_fit m.cells m.processors m.dealing)
    ∷ ask 4 (between (pos 1) (pos most_stride) m.stride && between least most m.offset)
    ∷ ask 5 (between (pos 0) most m.size)
    ∷ ask 15 (bounds_fit m)
    ∷ ask 5 (cells_fit m)
    ∷ []

-- a mapping is accepted if they are answered yes
abbrev pub Passes : Mapping → Type 0
Passes m = first_no (of_mapping m) ≡ 0

-- is z a declared index, from La to La + n − 1?
unfoldable pub is_index : Mapping → ℤ → Bool
is_index m z = between m.lower (last_index m) z

-- 6: are l, h and s in range, and is s not 0?
unfoldable pub in_range : Triplet → Bool
in_range x = between least most x.lower && between least most x.upper && between least most x.stride && not (eqb (nat_abs x.stride) 0)

-- 7: if the count is at least 1, are the elements at the first and last position elements of the array?
unfoldable pub ends_fit : Section → Bool
ends_fit x =
    eqb (count x) 0
    || (is_index x.mapping (element_at x.triplet 0) && is_index x.mapping (element_at x.triplet (count x - 1)))

abbrev pub of_triplet : Section → List Question
of_triplet x = ask 6 (in_range x.triplet) ∷ ask 7 (ends_fit x) ∷ []

abbrev pub of_section : Section → List Question
of_section x = of_mapping x.mapping ++ of_triplet x

-- 8
abbrev pub of_processor : Mapping → ℤ → List Question
of_processor m q = ask 8 (is_below m.processors q) ∷ []

-- 9, of a declared index, and going back of an address on a processor
abbrev pub of_index : Mapping → ℤ → List Question
of_index m i = ask 9 (is_index m i) ∷ []

abbrev pub of_address : Mapping → ℤ → ℤ → List Question
of_address m q a = ask 9 (is_below (pos (held (owner m) (nat m.size) (nat q))) a) ∷ []

-- 10: is the place the count, or a position whose element the processor owns?
unfoldable pub is_place : Section → ℤ → ℤ → Bool
is_place x q t =
    le_z (pos 0) t && (eqb (nat t) (count x) || (ltb (nat t) (count x) && owns_at x (nat q) (nat t)))

abbrev pub of_place : Section → ℤ → ℤ → List Question
of_place x q t = ask 10 (is_place x q t) ∷ []

-- 11
abbrev pub of_quota : ℤ → List Question
of_quota z = ask 11 (between (pos 3) (pos 1000000) z) ∷ []
