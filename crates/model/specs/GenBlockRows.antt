-- Cases of our own for GEN_BLOCK (document 02, A5), in the manner of the starred ones. Definitions only; proofs/GenBlockRowsHold.antt
-- computes them.
use Rattle.std.specs.Prelude.{ℕ, List, [], ◌∷◌, ℤ, pos, negsuc, replicate}
use Rattle.model.specs.Mappings.{gen_block, Mapping, Section}
use Rattle.model.specs.declared.Dealing.{Dealing}
use Rattle.model.specs.declared.Dealing.TheVariants.{Cyclic, GenBlock}
use Rattle.model.specs.declared.Mapping as mappings
use Rattle.model.specs.declared.Steps.TheVariants.{NoStep, OneStep}
use Rattle.model.specs.Starred.{Row, mapping, passed, owned, found, counted, dealt, steps, report, fills, transferred, saves, loads}
use Rattle.model.specs.Starred.{mapped, on, step}

-- T, p, the sizes, the bytes left over, a, b, n, La and Lt
abbrev pub runs : ℕ → ℕ → List ℤ → ℕ → ℕ → ℕ → ℕ → ℤ → ℤ → Mapping
runs T p sizes left a b n La Lt = record {
  cells = pos T;
  processors = pos p;
  dealing = gen_block sizes left;
  stride = pos a;
  offset = pos b;
  size = pos n;
  lower = La;
  origin = Lt;
}

-- an array of so many elements, one on each cell
abbrev whole : ℕ → ℕ → List ℤ → ℕ → Mapping
whole T p sizes n = runs T p sizes 0 1 0 n (pos 0) (pos 0)

-- 10 cells by sizes 0 4 0 8 0, sum 12: cells 0 to 3 are processor 1's, 4 to 9 processor 3's, and 10 and 11 nobody's
abbrev gapped : Mapping
gapped = whole 10 5 (pos 0 ∷ pos 4 ∷ pos 0 ∷ pos 8 ∷ pos 0 ∷ []) 10

-- 10 cells by sizes 3 0 0 7
abbrev edged : Mapping
edged = whole 10 4 (pos 3 ∷ pos 0 ∷ pos 0 ∷ pos 7 ∷ []) 10

-- A(1:9) aligned with T(2*j), T(1:20), by sizes 0 7 9 6: cells 1 3 5, 7 9 11 13 15 and 17
abbrev spaced : Mapping
spaced = runs 20 4 (pos 0 ∷ pos 7 ∷ pos 9 ∷ pos 6 ∷ []) 0 2 0 9 (pos 1) (pos 1)

-- T 10 and p 3, by these sizes, and 10 elements
abbrev three : List ℤ → Mapping
three sizes = whole 10 3 sizes 10

-- as a call passes it: T, p, the dealing, and an array of one element
abbrev pub given : ℕ → ℕ → Dealing → mappings.Mapping
given T p d = record {
  cells = pos T;
  processors = pos p;
  dealing = d;
  stride = pos 1;
  offset = pos 0;
  size = pos 1;
  lower = pos 0;
  origin = pos 0;
}

abbrev up : Section
up = on gapped (pos 0) (pos 9) (pos 1)

abbrev down : Section
down = on gapped (pos 9) (pos 0) (negsuc 0)

abbrev by_three : Section
by_three = on gapped (pos 0) (pos 9) (pos 3)

abbrev by_three_down : Section
by_three_down = on gapped (pos 9) (pos 0) (negsuc 2)

unfoldable pub gen_block_rows : List Row
gen_block_rows =
    -- sizes of 0, first, last and among the others; a sum above T
    owned gapped (pos 0) 0 1 0
    ∷ owned gapped (pos 3) 0 1 3
    ∷ owned gapped (pos 4) 0 3 0
    ∷ owned gapped (pos 9) 0 3 5
    ∷ owned gapped (pos 10) 9 0 0
    ∷ found gapped 1 3 0 (pos 3)
    ∷ found gapped 3 0 0 (pos 4)
    ∷ found gapped 3 5 0 (pos 9)
    ∷ found gapped 0 0 9 (pos 0)
    ∷ found gapped 2 0 9 (pos 0)
    ∷ found gapped 4 0 9 (pos 0)
    ∷ found gapped 5 0 8 (pos 0)
    ∷ counted gapped 0 0 0
    ∷ counted gapped 1 0 4
    ∷ counted gapped 2 0 0
    ∷ counted gapped 3 0 6
    ∷ counted gapped 4 0 0
    ∷ counted gapped 5 8 0
    -- processor 3's run has 8 cells, and 2 of them lie past T: no element sits there
    ∷ found gapped 3 6 9 (pos 0)
    ∷ mapping (whole 10 5 (pos 0 ∷ pos 4 ∷ pos 0 ∷ pos 8 ∷ pos 0 ∷ []) 11) 5
    ∷ owned edged (pos 2) 0 0 2
    ∷ owned edged (pos 3) 0 3 0
    ∷ owned edged (pos 9) 0 3 6
    ∷ found edged 0 2 0 (pos 2)
    ∷ found edged 3 6 0 (pos 9)
    -- gaps between elements, and declared bounds
    ∷ owned spaced (pos 0) 9 0 0
    ∷ owned spaced (pos 3) 0 1 2
    ∷ owned spaced (pos 4) 0 2 0
    ∷ owned spaced (pos 9) 0 3 0
    ∷ found spaced 2 4 0 (pos 8)
    ∷ found spaced 3 1 9 (pos 0)
    ∷ counted spaced 2 0 5
    -- the last cell of the largest template
    ∷ owned (runs 2147483647 3 (pos 2147483646 ∷ pos 1 ∷ pos 2147483647 ∷ []) 0 1 2147483646 1 (pos 0) (pos 0)) (pos 0) 0 1 0
    -- a run is one course, and its columns count from its start; and of a cyclic template
    ∷ dealt gapped 0 1 0 0
    ∷ dealt gapped 3 1 0 3
    ∷ dealt gapped 4 3 0 0
    ∷ dealt gapped 9 3 0 5
    ∷ dealt spaced 15 2 0 8
    ∷ dealt spaced 17 3 0 1
    ∷ dealt (mapped 96 3 4 1 0 96) 91 1 7 3
    -- one step, of S cells, 0 courses and column move S, up and down
    ∷ steps by_three (OneStep (step 3 0 3))
    ∷ report by_three (pos 0 ∷ pos 4 ∷ pos 1 ∷ pos 3 ∷ pos 0 ∷ pos 3 ∷ pos 0 ∷ pos 0 ∷ pos 0 ∷ [])
    ∷ report by_three_down (pos 0 ∷ pos 4 ∷ pos 1 ∷ pos 3 ∷ pos 0 ∷ pos 3 ∷ pos 0 ∷ pos 0 ∷ pos 0 ∷ [])
    ∷ report (on spaced (pos 9) (pos 1) (negsuc 2)) (pos 0 ∷ pos 3 ∷ pos 1 ∷ pos 6 ∷ pos 0 ∷ pos 6 ∷ pos 0 ∷ pos 0 ∷ pos 0 ∷ [])
    -- no or one element has no step, and one costs 1 try
    ∷ steps (on gapped (pos 5) (pos 4) (pos 1)) NoStep
    ∷ steps (on gapped (pos 5) (pos 5) (pos 1)) NoStep
    ∷ report (on gapped (pos 5) (pos 4) (pos 1)) (replicate 9 (pos 0))
    ∷ report (on gapped (pos 5) (pos 5) (pos 1)) (pos 0 ∷ pos 1 ∷ replicate 7 (pos 0))
    ∷ fills (on gapped (pos 5) (pos 5) (pos 1)) 3 0 (100 ∷ []) (1 ∷ []) 1 1
    -- each element costs 1 try, and after a processor's last one the place is the count
    ∷ fills by_three 1 0 (100 ∷ []) (0 ∷ 3 ∷ []) 2 4
    ∷ fills by_three 3 2 (100 ∷ []) (2 ∷ 5 ∷ []) 2 4
    ∷ fills by_three 0 4 (100 ∷ []) [] 0 4
    ∷ fills by_three_down 3 0 (100 ∷ []) (5 ∷ 2 ∷ []) 2 4
    ∷ fills by_three_down 1 2 (100 ∷ []) (3 ∷ 0 ∷ []) 2 4
    ∷ fills down 1 6 (100 ∷ []) (3 ∷ 2 ∷ 1 ∷ 0 ∷ []) 4 10
    ∷ fills (on spaced (pos 9) (pos 1) (negsuc 1)) 2 1 (100 ∷ []) (3 ∷ 1 ∷ []) 2 5
    -- a fill goes on only while 3 tries are left; a second one from where it stopped, also after a refused one, and into a list that was full
    ∷ fills up 3 4 (4 ∷ []) (0 ∷ 1 ∷ []) 2 6
    ∷ fills up 3 4 (4 ∷ 3 ∷ []) (0 ∷ 1 ∷ 2 ∷ []) 3 7
    ∷ fills up 3 4 (4 ∷ 2 ∷ 100 ∷ []) (0 ∷ 1 ∷ 2 ∷ 3 ∷ 4 ∷ 5 ∷ []) 6 10
    ∷ fills up 1 0 (3 ∷ 100 ∷ []) (0 ∷ 1 ∷ 2 ∷ 3 ∷ []) 4 10
    ∷ fills down 3 0 (4 ∷ []) (5 ∷ 4 ∷ []) 2 2
    ∷ fills down 3 0 (4 ∷ 100 ∷ []) (5 ∷ 4 ∷ 3 ∷ 2 ∷ 1 ∷ 0 ∷ []) 6 10
    ∷ fills (on (whole 12 1 (pos 12 ∷ []) 12) (pos 0) (pos 11) (pos 1)) 0 0 (100 ∷ []) (0 ∷ 1 ∷ 2 ∷ 3 ∷ 4 ∷ 5 ∷ 6 ∷ 7 ∷ []) 8 8
    -- from a cyclic template to a GEN_BLOCK one, back with a section that goes down, and between two
    ∷ transferred up (on (mapped 10 2 2 1 0 10) (pos 0) (pos 9) (pos 1)) 1 3 (6 ∷ 7 ∷ 77 ∷ 77 ∷ []) (2 ∷ 3 ∷ 77 ∷ 77 ∷ []) (2 ∷ 3 ∷ 77 ∷ 77 ∷ [])
    ∷ transferred (on (mapped 10 2 2 1 0 10) (pos 0) (pos 9) (pos 1)) down 3 1 (2 ∷ 3 ∷ 77 ∷ 77 ∷ []) (3 ∷ 2 ∷ 77 ∷ 77 ∷ []) (0 ∷ 1 ∷ 77 ∷ 77 ∷ [])
    ∷ transferred up (on edged (pos 9) (pos 0) (negsuc 0)) 3 1 (0 ∷ 1 ∷ 2 ∷ 3 ∷ []) (6 ∷ 5 ∷ 4 ∷ 3 ∷ []) (0 ∷ 1 ∷ 2 ∷ 3 ∷ [])
    -- runs laid end to end are in index order
    ∷ saves (three (pos 4 ∷ pos 0 ∷ pos 6 ∷ [])) (30 ∷ 31 ∷ 32 ∷ 33 ∷ 34 ∷ 35 ∷ 36 ∷ 37 ∷ 38 ∷ 39 ∷ []) 11 0 0 (30 ∷ 31 ∷ 32 ∷ 33 ∷ 34 ∷ 35 ∷ 36 ∷ 37 ∷ 38 ∷ 39 ∷ 77 ∷ [])
    ∷ loads spaced (30 ∷ 31 ∷ 32 ∷ 33 ∷ 34 ∷ 35 ∷ 36 ∷ 37 ∷ 38 ∷ []) 9 0 0 (30 ∷ 31 ∷ 32 ∷ 33 ∷ 34 ∷ 35 ∷ 36 ∷ 37 ∷ 38 ∷ [])
    -- 16: a list one too short, one too long, a byte left over, a negative size, a sum one below T
    ∷ mapping (three (pos 4 ∷ pos 0 ∷ pos 6 ∷ [])) 0
    ∷ mapping (three (pos 5 ∷ pos 5 ∷ [])) 16
    ∷ mapping (three (pos 5 ∷ pos 5 ∷ pos 0 ∷ pos 0 ∷ [])) 16
    ∷ mapping (runs 10 3 (pos 4 ∷ pos 0 ∷ pos 6 ∷ []) 1 1 0 10 (pos 0) (pos 0)) 16
    ∷ mapping (three (pos 12 ∷ negsuc 0 ∷ pos 3 ∷ [])) 16
    ∷ mapping (three (pos 4 ∷ pos 0 ∷ pos 5 ∷ [])) 16
    ∷ mapping (three (replicate 3 (pos 2147483647))) 0
    -- it stands after 1 and 2 and before 4, where 3 stands of a cyclic template
    ∷ mapping (runs 0 3 (pos 4 ∷ []) 1 0 0 11 (pos 0) (pos 0)) 1
    ∷ mapping (runs 10 0 (pos 4 ∷ negsuc 0 ∷ []) 0 0 0 11 (pos 0) (pos 0)) 2
    ∷ mapping (runs 10 1025 [] 0 0 0 11 (pos 0) (pos 0)) 2
    ∷ mapping (runs 10 3 (pos 4 ∷ pos 0 ∷ pos 5 ∷ []) 0 0 0 11 (pos 0) (pos 0)) 16
    ∷ mapping (runs 10 3 (pos 4 ∷ pos 0 ∷ pos 6 ∷ []) 0 0 0 11 (pos 0) (pos 0)) 4
    ∷ mapping (runs 10 3 (pos 4 ∷ pos 0 ∷ pos 6 ∷ []) 0 4096 0 1 (pos 0) (pos 0)) 0
    ∷ mapping (runs 10 3 (pos 4 ∷ pos 0 ∷ pos 6 ∷ []) 0 4097 0 1 (pos 0) (pos 0)) 4
    ∷ mapping (mapped 10 3 0 0 0 11) 3
    ∷ owned (three (pos 4 ∷ pos 0 ∷ pos 5 ∷ [])) (pos 0) 16 0 0
    ∷ report (on (three (pos 4 ∷ pos 0 ∷ pos 5 ∷ [])) (pos 0) (pos 9) (pos 0)) (pos 16 ∷ replicate 8 (pos 0))
    -- sizes as bytes, 4 to a size, lowest first: 4 and 262, which is 266; and the bytes of a cyclic template are not looked at
    ∷ passed (given 266 2 GenBlock) (4 ∷ 0 ∷ 0 ∷ 0 ∷ 6 ∷ 1 ∷ 0 ∷ 0 ∷ []) 0
    ∷ passed (given 267 2 GenBlock) (4 ∷ 0 ∷ 0 ∷ 0 ∷ 6 ∷ 1 ∷ 0 ∷ 0 ∷ []) 16
    ∷ passed (given 4 2 GenBlock) (4 ∷ 0 ∷ 0 ∷ 0 ∷ 6 ∷ 1 ∷ 0 ∷ []) 16
    ∷ passed (given 4 2 GenBlock) (4 ∷ 0 ∷ 0 ∷ 0 ∷ 6 ∷ 1 ∷ 0 ∷ 0 ∷ 0 ∷ []) 16
    ∷ passed (given 4 2 GenBlock) (4 ∷ 0 ∷ 0 ∷ 0 ∷ 6 ∷ 1 ∷ 0 ∷ 0 ∷ 0 ∷ 0 ∷ 0 ∷ []) 16
    ∷ passed (given 2147483647 1 GenBlock) (255 ∷ 255 ∷ 255 ∷ 127 ∷ []) 0
    ∷ passed (given 4 1 GenBlock) (0 ∷ 0 ∷ 0 ∷ 128 ∷ []) 16
    ∷ passed (given 4 2 GenBlock) (5 ∷ 0 ∷ 0 ∷ 0 ∷ 255 ∷ 255 ∷ 255 ∷ 255 ∷ []) 16
    ∷ passed (given 4 2 (Cyclic (pos 2))) (255 ∷ 255 ∷ 255 ∷ 255 ∷ 0 ∷ []) 0
    ∷ passed (given 4 2 (Cyclic (pos 0))) (4 ∷ 0 ∷ 0 ∷ 0 ∷ 6 ∷ 1 ∷ 0 ∷ 0 ∷ []) 3
    ∷ []
