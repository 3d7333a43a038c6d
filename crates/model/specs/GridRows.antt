-- Cases of our own for grids of processors (document 02, A7), in the manner of the starred ones. Definitions only;
-- proofs/GridRowsHold.antt computes them.
use Rattle.std.specs.Prelude.{ℕ, Bool, true, ◌&&◌, List, [], ◌∷◌, map, eqb, ℤ, pos, negsuc, replicate}
use Rattle.model.specs.Filling.{got, paid, standing}
use Rattle.model.specs.declared.three.Three.{Three}
use Rattle.model.specs.Grids.{Grid, GridSection}
use Rattle.model.specs.GridCalls.{grid_ownership, grid_going_back, grid_steps, grid_first_place, GridFill, grid_fill}
use Rattle.model.specs.Starred.{same_list, same_numbers, report_numbers, mapped, on}
use Rattle.model.specs.GridCases.{at, nowhere, flat, ranked_on, flat_on, solid_on, sixes, fives, fours, edge, one_up, two_down, plane, thirds, below, pair, cube}
use Rattle.model.specs.GridCases.{up, rows, whole, falling, both_down, strided, narrow, lines, floors, layers, full, line}

-- the quota of a fill, and how many entries its list has
pub record Lent : Type 0 where
  pub quota : ℕ
  pub room : ℕ

abbrev by : ℕ → ℕ → Lent
by z n = record { quota = z; room = n }

pub data Row : Type 0 where
  -- the element of declared indices has this refusal, processor and address; and going back this refusal and declared indices
  owned : Grid → Three ℤ → ℕ → ℕ → ℕ → Row
  found : Grid → ℤ → ℤ → ℕ → Three ℤ → Row
  -- the call for a section's steps answers this refusal, this count, and these numbers of each dimension
  report : GridSection → ℕ → ℕ → List ℤ → List ℤ → List ℤ → Row
  -- from a processor's first place fills with what is lent give these entries, tries and next place; a quota of 2 is refused
  fills : GridSection → ℕ → ℕ → List Lent → List ℕ → ℕ → ℕ → Row

-- the fills of processor q, each from the place that stands
abbrev run_from : GridSection → ℕ → ℕ → List Lent → List GridFill
run_from x q t [] = []
run_from x q t (l ∷ ls) =
    let c : GridFill = record { section = x; processor = pos q; place = pos t; quota = pos l.quota; list = replicate l.room 77 } in
    c ∷ run_from x q (standing t (grid_fill c ∷ [])) ls

abbrev listed : Three ℤ → List ℤ
listed j = j.first ∷ j.second ∷ j.third ∷ []

abbrev pub holds : Row → Bool
holds (owned g j e q a) =
    let r = grid_ownership g j in
    same_list (r.refusal ∷ r.processor ∷ r.address ∷ []) (e ∷ q ∷ a ∷ [])
holds (found g q x e j) =
    let r = grid_going_back g q x in
    eqb r.refusal e && same_numbers (listed r.indices) (listed j)
holds (report x e n first second third) =
    let r = grid_steps x in
    same_list (r.refusal ∷ r.count ∷ []) (e ∷ n ∷ []) && same_numbers (report_numbers r.dimensions.first) first
    && same_numbers (report_numbers r.dimensions.second) second && same_numbers (report_numbers r.dimensions.third) third
holds (fills x q t ls xs tries next) =
    let r = grid_first_place x (pos q) in
    let os = map grid_fill (run_from x q t ls) in
    same_list (r.refusal ∷ r.place ∷ []) (0 ∷ t ∷ []) && same_list (got os) xs && eqb (paid os) tries && eqb (standing t os) next

abbrev pub every_row : List Row → Bool
every_row [] = true
every_row (r ∷ rs) = holds r && every_row rs

-- a dimension without elements, and one with one, has no steps
abbrev none : List ℤ
none = replicate 9 (pos 0)

abbrev alone : List ℤ
alone = pos 0 ∷ pos 1 ∷ replicate 7 (pos 0)

unfoldable pub grid_rows : List Row
grid_rows =
    -- elements of a plane: coordinates and storage first dimension fastest; an index past the rank is not looked at
    owned plane (at (pos 0) (pos 0) (pos 99)) 0 0 0
    ∷ owned plane (at (pos 1) (pos 0) (pos 0)) 0 1 0
    ∷ owned plane (at (pos 0) (pos 1) (pos 0)) 0 2 0
    ∷ owned plane (at (pos 2) (pos 1) (negsuc 0)) 0 2 1
    ∷ owned plane (at (pos 1) (pos 3) (pos 0)) 0 3 2
    ∷ owned plane (at (pos 5) (pos 4) (pos 0)) 0 0 11
    ∷ owned plane (at (pos 6) (pos 0) (pos 0)) 9 0 0
    ∷ owned plane (at (pos 0) (pos 5) (pos 0)) 9 0 0
    ∷ owned plane (at (negsuc 0) (pos 0) (pos 0)) 9 0 0
    ∷ found plane (pos 3) (pos 2) 0 (at (pos 1) (pos 3) (pos 0))
    ∷ found plane (pos 0) (pos 11) 0 (at (pos 5) (pos 4) (pos 0))
    ∷ found plane (pos 3) (pos 4) 9 (at (pos 0) (pos 0) (pos 0))
    ∷ found plane (pos 0) (negsuc 0) 9 (at (pos 0) (pos 0) (pos 0))
    ∷ found plane (pos 4) (pos 0) 8 (at (pos 0) (pos 0) (pos 0))
    ∷ found plane (negsuc 0) (pos 0) 8 (at (pos 0) (pos 0) (pos 0))
    -- with declared bounds, and with GEN_BLOCK in one dimension
    ∷ owned (flat one_up two_down) (at (pos 6) (pos 2) (pos 0)) 0 0 11
    ∷ owned (flat one_up two_down) (at (pos 0) (pos 0) (pos 0)) 9 0 0
    ∷ found (flat one_up two_down) (pos 3) (pos 2) 0 (at (pos 2) (pos 1) (pos 0))
    ∷ owned (flat sixes edge) (at (pos 4) (pos 5) (pos 0)) 0 5 7
    ∷ owned (flat edge fives) (at (pos 5) (pos 3) (pos 0)) 0 5 7
    ∷ found (flat edge fives) (pos 5) (pos 6) 0 (at (pos 4) (pos 3) (pos 0))
    ∷ found (flat edge fives) (pos 1) (pos 0) 9 (at (pos 0) (pos 0) (pos 0))
    -- of a cube
    ∷ owned cube (at (pos 0) (negsuc 0) (pos 0)) 0 6 0
    ∷ owned cube (at (pos 2) (pos 0) (pos 1)) 0 6 7
    ∷ owned cube (at (pos 1) (pos 1) (pos 1)) 0 9 1
    ∷ owned cube (at (pos 2) (pos 1) (pos 1)) 0 8 3
    ∷ owned cube (at (pos 0) (negsuc 1) (pos 0)) 9 0 0
    ∷ owned cube (at (pos 0) (pos 0) (pos 2)) 9 0 0
    ∷ found cube (pos 6) (pos 7) 0 (at (pos 2) (pos 0) (pos 1))
    ∷ found cube (pos 8) (pos 2) 0 (at (pos 0) (pos 1) (pos 1))
    ∷ found cube (pos 5) (pos 0) 9 (at (pos 0) (pos 0) (pos 0))
    ∷ found cube (pos 11) (pos 0) 9 (at (pos 0) (pos 0) (pos 0))
    ∷ found cube (pos 12) (pos 0) 8 (at (pos 0) (pos 0) (pos 0))
    -- fills of a plane: whole rows; a list and a quota that end at a row's end, and in the middle of one; another from there, also
    -- after a refused one. The last element of a row is paid as in the first dimension
    ∷ fills whole 0 0 (by 100 20 ∷ []) (0 ∷ 1 ∷ 2 ∷ 3 ∷ 4 ∷ 5 ∷ 6 ∷ 7 ∷ 8 ∷ 9 ∷ 10 ∷ 11 ∷ []) 18 30
    ∷ fills whole 0 0 (by 100 4 ∷ []) (0 ∷ 1 ∷ 2 ∷ 3 ∷ []) 6 12
    ∷ fills whole 0 0 (by 100 5 ∷ []) (0 ∷ 1 ∷ 2 ∷ 3 ∷ 4 ∷ []) 7 14
    ∷ fills whole 0 0 (by 100 4 ∷ by 2 4 ∷ by 100 5 ∷ by 2 9 ∷ by 100 20 ∷ []) (0 ∷ 1 ∷ 2 ∷ 3 ∷ 4 ∷ 5 ∷ 6 ∷ 7 ∷ 8 ∷ 9 ∷ 10 ∷ 11 ∷ []) 18 30
    ∷ fills whole 0 0 (by 8 20 ∷ []) (0 ∷ 1 ∷ 2 ∷ 3 ∷ []) 6 12
    ∷ fills whole 0 0 (by 9 20 ∷ []) (0 ∷ 1 ∷ 2 ∷ 3 ∷ 4 ∷ []) 7 14
    ∷ fills whole 0 0 (by 8 20 ∷ by 2 4 ∷ by 9 20 ∷ by 2 0 ∷ by 100 20 ∷ []) (0 ∷ 1 ∷ 2 ∷ 3 ∷ 4 ∷ 5 ∷ 6 ∷ 7 ∷ 8 ∷ 9 ∷ 10 ∷ 11 ∷ []) 18 30
    ∷ fills whole 0 0 (by 100 0 ∷ by 100 1 ∷ []) (0 ∷ []) 1 2
    ∷ fills whole 1 1 (by 6 20 ∷ []) (0 ∷ 1 ∷ []) 6 13
    ∷ fills whole 1 1 (by 11 20 ∷ []) (0 ∷ 1 ∷ 2 ∷ []) 9 16
    ∷ fills whole 1 1 (by 6 20 ∷ by 2 3 ∷ by 9 20 ∷ by 100 9 ∷ []) (0 ∷ 1 ∷ 2 ∷ 3 ∷ 4 ∷ 5 ∷ []) 18 30
    ∷ fills whole 2 6 (by 100 20 ∷ []) (0 ∷ 1 ∷ 2 ∷ 3 ∷ 4 ∷ 5 ∷ 6 ∷ 7 ∷ []) 12 30
    ∷ fills whole 3 7 (by 100 2 ∷ by 2 2 ∷ by 100 2 ∷ []) (0 ∷ 1 ∷ 2 ∷ 3 ∷ []) 12 30
    -- with strides; no row of the section is the processor's, no element of its rows, no element of the array
    ∷ fills strided 0 0 (by 100 20 ∷ []) (0 ∷ 1 ∷ 4 ∷ 5 ∷ 8 ∷ 9 ∷ []) 9 9
    ∷ fills strided 1 2 (by 100 20 ∷ []) (1 ∷ 3 ∷ 5 ∷ []) 9 9
    ∷ fills strided 2 9 (by 100 20 ∷ []) [] 0 9
    ∷ fills (flat_on (on sixes (pos 1) (pos 4) (pos 3)) rows) 1 0 (by 100 20 ∷ []) (0 ∷ 1 ∷ 2 ∷ 3 ∷ 4 ∷ 5 ∷ []) 6 10
    ∷ fills (flat_on (on sixes (pos 1) (pos 4) (pos 3)) rows) 2 10 (by 100 20 ∷ []) [] 0 10
    ∷ fills narrow 2 12 (by 100 20 ∷ []) (0 ∷ 1 ∷ 2 ∷ 3 ∷ 4 ∷ 5 ∷ 6 ∷ 7 ∷ []) 12 24
    ∷ fills narrow 4 24 (by 100 20 ∷ []) [] 0 24
    ∷ fills narrow 5 24 (by 100 20 ∷ []) [] 0 24
    ∷ found (flat sixes fours) (pos 4) (pos 0) 9 (at (pos 0) (pos 0) (pos 0))
    -- downward in the first dimension, in the second, in both
    ∷ fills falling 0 0 (by 100 20 ∷ []) (3 ∷ 2 ∷ 1 ∷ 0 ∷ 7 ∷ 6 ∷ 5 ∷ 4 ∷ 11 ∷ 10 ∷ 9 ∷ 8 ∷ []) 18 30
    ∷ fills falling 0 0 (by 8 20 ∷ []) (3 ∷ 2 ∷ 1 ∷ 0 ∷ []) 6 12
    ∷ fills falling 0 0 (by 100 6 ∷ by 2 1 ∷ by 100 20 ∷ []) (3 ∷ 2 ∷ 1 ∷ 0 ∷ 7 ∷ 6 ∷ 5 ∷ 4 ∷ 11 ∷ 10 ∷ 9 ∷ 8 ∷ []) 18 30
    ∷ fills falling 1 1 (by 100 20 ∷ []) (1 ∷ 0 ∷ 3 ∷ 2 ∷ 5 ∷ 4 ∷ []) 18 30
    ∷ fills (flat_on up (on fives (pos 4) (pos 0) (negsuc 0))) 2 6 (by 100 5 ∷ by 100 9 ∷ []) (4 ∷ 5 ∷ 6 ∷ 7 ∷ 0 ∷ 1 ∷ 2 ∷ 3 ∷ []) 12 30
    ∷ fills both_down 2 0 (by 100 20 ∷ []) (7 ∷ 6 ∷ 3 ∷ 2 ∷ []) 6 6
    ∷ fills both_down 3 2 (by 100 20 ∷ []) (2 ∷ 0 ∷ []) 6 6
    -- with declared bounds, and with GEN_BLOCK in one dimension
    ∷ fills (flat_on (on one_up (pos 6) (pos 1) (negsuc 0)) (on two_down (pos 2) (negsuc 1) (negsuc 1))) 0 0 (by 100 5 ∷ by 100 20 ∷ []) (11 ∷ 10 ∷ 9 ∷ 8 ∷ 7 ∷ 6 ∷ 5 ∷ 4 ∷ 3 ∷ 2 ∷ 1 ∷ 0 ∷ []) 18 18
    ∷ fills (flat_on (on edge (pos 0) (pos 5) (pos 1)) rows) 2 2 (by 6 20 ∷ by 2 9 ∷ by 100 20 ∷ []) (0 ∷ 1 ∷ 2 ∷ 3 ∷ 4 ∷ 5 ∷ 6 ∷ 7 ∷ 8 ∷ 9 ∷ 10 ∷ 11 ∷ []) 12 30
    ∷ fills (flat_on (on edge (pos 5) (pos 0) (negsuc 1)) rows) 5 3 (by 100 20 ∷ []) (3 ∷ 1 ∷ 7 ∷ 5 ∷ []) 4 15
    ∷ fills (flat_on (on edge (pos 0) (pos 5) (pos 1)) rows) 4 30 (by 100 20 ∷ []) [] 0 30
    ∷ fills (flat_on up (on edge (pos 5) (pos 1) (negsuc 1))) 4 0 (by 100 20 ∷ []) (12 ∷ 13 ∷ 14 ∷ 15 ∷ 4 ∷ 5 ∷ 6 ∷ 7 ∷ []) 12 18
    -- no elements in the first dimension, or in another
    ∷ fills (flat_on (on sixes (pos 3) (pos 2) (pos 1)) rows) 1 0 (by 100 20 ∷ []) [] 0 0
    ∷ fills (flat_on up (on fives (pos 3) (pos 2) (pos 1))) 1 0 (by 100 20 ∷ []) [] 0 0
    ∷ fills (flat_on (on (mapped 24 2 3 4 0 0) (pos 0) (negsuc 0) (pos 1)) rows) 1 0 (by 100 20 ∷ []) [] 0 0
    ∷ found (flat (mapped 24 2 3 4 0 0) fives) (pos 0) (pos 0) 9 (at (pos 0) (pos 0) (pos 0))
    ∷ owned (flat sixes (mapped 5 2 1 1 0 0)) (at (pos 0) (pos 0) (pos 0)) 9 0 0
    -- fills of a cube, as those of a plane; the processors without a row; each dimension downward; and each without elements
    ∷ fills full 6 0 (by 100 20 ∷ []) (0 ∷ 1 ∷ 2 ∷ 3 ∷ 4 ∷ 5 ∷ 6 ∷ 7 ∷ []) 12 18
    ∷ fills full 6 0 (by 3 9 ∷ []) (0 ∷ []) 1 2
    ∷ fills full 6 0 (by 3 9 ∷ by 2 9 ∷ by 100 3 ∷ by 5 9 ∷ by 100 20 ∷ []) (0 ∷ 1 ∷ 2 ∷ 3 ∷ 4 ∷ 5 ∷ 6 ∷ 7 ∷ []) 12 18
    ∷ fills full 6 0 (by 100 4 ∷ []) (0 ∷ 1 ∷ 2 ∷ 3 ∷ []) 6 9
    ∷ fills full 6 0 (by 100 4 ∷ by 2 4 ∷ by 100 20 ∷ []) (0 ∷ 1 ∷ 2 ∷ 3 ∷ 4 ∷ 5 ∷ 6 ∷ 7 ∷ []) 12 18
    ∷ fills full 7 1 (by 3 9 ∷ by 2 1 ∷ by 6 9 ∷ by 100 9 ∷ []) (0 ∷ 1 ∷ 2 ∷ 3 ∷ []) 12 18
    ∷ fills full 8 6 (by 100 2 ∷ by 2 2 ∷ by 100 2 ∷ []) (0 ∷ 1 ∷ 2 ∷ 3 ∷ []) 6 18
    ∷ fills full 9 7 (by 100 20 ∷ []) (0 ∷ 1 ∷ []) 6 18
    ∷ fills full 5 18 (by 100 20 ∷ []) [] 0 18
    ∷ fills full 10 18 (by 100 20 ∷ []) [] 0 18
    ∷ fills (solid_on (on thirds (pos 2) (pos 0) (negsuc 0)) floors layers) 6 0 (by 100 3 ∷ by 2 3 ∷ by 100 20 ∷ []) (1 ∷ 0 ∷ 3 ∷ 2 ∷ 5 ∷ 4 ∷ 7 ∷ 6 ∷ []) 12 18
    ∷ fills (solid_on lines (on below (pos 1) (negsuc 0) (negsuc 0)) layers) 6 3 (by 100 3 ∷ by 100 20 ∷ []) (2 ∷ 3 ∷ 0 ∷ 1 ∷ 6 ∷ 7 ∷ 4 ∷ 5 ∷ []) 12 18
    ∷ fills (solid_on (on thirds (pos 2) (pos 0) (negsuc 0)) (on below (pos 1) (negsuc 0) (negsuc 1)) (on pair (pos 1) (pos 0) (negsuc 0))) 8 0 (by 100 20 ∷ []) (3 ∷ 2 ∷ 1 ∷ 0 ∷ []) 6 12
    ∷ fills (solid_on lines floors (on pair (pos 1) (pos 1) (pos 1))) 6 0 (by 100 20 ∷ []) (4 ∷ 5 ∷ 6 ∷ 7 ∷ []) 6 9
    ∷ fills (solid_on up (on fours (pos 0) (pos 3) (pos 3)) (on fives (pos 0) (pos 4) (pos 4))) 2 6 (by 100 6 ∷ by 2 6 ∷ by 100 6 ∷ []) (4 ∷ 5 ∷ 6 ∷ 7 ∷ 20 ∷ 21 ∷ 22 ∷ 23 ∷ []) 12 24
    ∷ fills (solid_on (on thirds (pos 1) (pos 0) (pos 1)) floors layers) 6 0 (by 100 20 ∷ []) [] 0 0
    ∷ fills (solid_on lines (on below (pos 1) (pos 0) (pos 1)) layers) 6 0 (by 100 20 ∷ []) [] 0 0
    ∷ fills (solid_on lines floors (on pair (pos 1) (pos 0) (pos 1))) 6 0 (by 100 20 ∷ []) [] 0 0
    -- rank 1
    ∷ fills (ranked_on (pos 1) line nowhere nowhere) 1 1 (by 3 8 ∷ by 6 8 ∷ []) (3 ∷ 8 ∷ 14 ∷ []) 6 11
    -- the steps are each dimension's own, and past the rank is one element
    ∷ report whole 0 30 (pos 0 ∷ pos 6 ∷ pos 2 ∷ pos 8 ∷ pos 1 ∷ pos 2 ∷ pos 4 ∷ pos 1 ∷ negsuc 1 ∷ []) (pos 0 ∷ pos 5 ∷ pos 1 ∷ pos 2 ∷ pos 1 ∷ pos 0 ∷ pos 0 ∷ pos 0 ∷ pos 0 ∷ []) alone
    ∷ report full 0 18 (pos 0 ∷ pos 3 ∷ pos 2 ∷ pos 8 ∷ pos 1 ∷ pos 2 ∷ pos 4 ∷ pos 1 ∷ negsuc 1 ∷ []) (pos 0 ∷ pos 3 ∷ pos 2 ∷ pos 1 ∷ pos 0 ∷ pos 1 ∷ pos 5 ∷ pos 1 ∷ negsuc 0 ∷ []) (pos 0 ∷ pos 2 ∷ pos 1 ∷ pos 1 ∷ pos 0 ∷ pos 1 ∷ pos 0 ∷ pos 0 ∷ pos 0 ∷ [])
    ∷ report (flat_on (on edge (pos 5) (pos 0) (negsuc 1)) rows) 0 15 (pos 0 ∷ pos 3 ∷ pos 1 ∷ pos 2 ∷ pos 0 ∷ pos 2 ∷ pos 0 ∷ pos 0 ∷ pos 0 ∷ []) (pos 0 ∷ pos 5 ∷ pos 1 ∷ pos 2 ∷ pos 1 ∷ pos 0 ∷ pos 0 ∷ pos 0 ∷ pos 0 ∷ []) alone
    ∷ report (flat_on (on sixes (pos 3) (pos 2) (pos 1)) rows) 0 0 none (pos 0 ∷ pos 5 ∷ pos 1 ∷ pos 2 ∷ pos 1 ∷ pos 0 ∷ pos 0 ∷ pos 0 ∷ pos 0 ∷ []) alone
    ∷ report (ranked_on (pos 1) line nowhere nowhere) 0 14 (pos 0 ∷ pos 14 ∷ pos 2 ∷ pos 14 ∷ pos 1 ∷ pos 2 ∷ pos 21 ∷ pos 2 ∷ negsuc 2 ∷ []) alone alone
    ∷ report (flat_on up (on fives (pos 0) (pos 5) (pos 1))) 7 0 none none none
    ∷ []
