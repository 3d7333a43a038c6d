-- Cases of our own for the questions about grids of processors (document 02, A7) and about sections of them: which is the first
-- to be answered no. Definitions only; proofs/GridRowsHold.antt computes them.
use Rattle.std.specs.Prelude.{ℕ, Bool, true, ◌&&◌, List, [], ◌∷◌, eqb, ℤ, pos, negsuc}
use Rattle.model.specs.Mappings.{Mapping, Section}
use Rattle.model.specs.declared.Dealing.TheVariants.{Cyclic, GenBlock}
use Rattle.model.specs.declared.Mapping as mappings
use Rattle.model.specs.declared.Section as sections
use Rattle.model.specs.declared.three.Ranked.{Ranked}
use Rattle.model.specs.Questions.{Question, first_no}
use Rattle.model.specs.Grids.{GridSection, grid_with, grid_section_with, of_grid, of_grid_section}
use Rattle.model.specs.GridCalls.{of_grid_place, of_grid_fill}
use Rattle.model.specs.Starred.{mapped, bounded, on}
use Rattle.model.specs.GenBlockRows.{runs, given}
use Rattle.model.specs.GridCases.{nothing, nowhere, ranked, flat, solid, ranked_on, flat_on, solid_on, sixes, fives, fours, up, rows, whole, narrow, full}

-- questions, and the number of the first that is answered no, or 0
pub record Refusal : Type 0 where
  pub questions : List Question
  pub number : ℕ

abbrev refused : List Question → ℕ → Refusal
refused qs e = record { questions = qs; number = e }

abbrev pub every_refusal : List Refusal → Bool
every_refusal [] = true
every_refusal (r ∷ rs) = eqb (first_no r.questions) r.number && every_refusal rs

-- one element among so many processors; so many elements on one; and the first of such
abbrev among : ℕ → Mapping
among p = mapped 2000 p 1 1 0 1

abbrev of_size : ℕ → Mapping
of_size n = mapped 2147483647 1 1 1 0 n

abbrev first_of : Mapping → Section
first_of m = on m (pos 0) (pos 0) (pos 1)

-- of a fill of a processor from a place with a quota
abbrev filled : GridSection → ℤ → ℤ → ℤ → List Question
filled x q t z = of_grid_fill (record { section = x; processor = q; place = t; quota = z; list = [] })

-- as a call passes them
abbrev lent : ℤ → mappings.Mapping → mappings.Mapping → mappings.Mapping → Ranked mappings.Mapping
lent r x y z = record { rank = r; dimensions = record { first = x; second = y; third = z } }

abbrev only : mappings.Mapping → sections.Section
only m = record { mapping = m; triplet = record { lower = pos 0; upper = pos 0; stride = pos 1 } }

abbrev lent_on : ℤ → mappings.Mapping → mappings.Mapping → mappings.Mapping → Ranked sections.Section
lent_on r x y z = record { rank = r; dimensions = record { first = only x; second = only y; third = only z } }

abbrev runs_of : ℕ → mappings.Mapping
runs_of T = given T 2 GenBlock

abbrev by_two : mappings.Mapping
by_two = given 9 3 (Cyclic (pos 2))

-- the sizes 4 and 0, and 1 and 5, as bytes
abbrev four_none : List ℕ
four_none = 4 ∷ 0 ∷ 0 ∷ 0 ∷ 0 ∷ 0 ∷ 0 ∷ 0 ∷ []

abbrev one_five : List ℕ
one_five = 1 ∷ 0 ∷ 0 ∷ 0 ∷ 5 ∷ 0 ∷ 0 ∷ 0 ∷ []

unfoldable pub grid_refusals : List Refusal
grid_refusals =
    -- 17, first of all: a rank that is not 1, 2 or 3
    refused (of_grid (ranked (pos 0) nothing nothing nothing)) 17
    ∷ refused (of_grid (ranked (pos 4) nothing nothing nothing)) 17
    ∷ refused (of_grid (ranked (negsuc 0) sixes fives fours)) 17
    -- numbers past the rank are not looked at
    ∷ refused (of_grid (ranked (pos 1) sixes nothing nothing)) 0
    ∷ refused (of_grid (ranked (pos 2) sixes fives nothing)) 0
    ∷ refused (of_grid (ranked (pos 3) sixes fives nothing)) 1
    ∷ refused (of_grid (ranked (pos 1) (among 1024) (among 1024) (of_size 2147483647))) 0
    -- a dimension puts all of its questions before the next puts any
    ∷ refused (of_grid (flat (mapped 24 2 3 4 0 7) nothing)) 5
    ∷ refused (of_grid (flat (mapped 24 2 0 4 0 6) nothing)) 3
    ∷ refused (of_grid (solid sixes (mapped 5 2 1 0 0 5) nothing)) 4
    ∷ refused (of_grid (flat (runs 5 3 (pos 2 ∷ pos 2 ∷ []) 0 1 0 5 (pos 0) (pos 0)) nothing)) 16
    ∷ refused (of_grid (flat sixes (bounded 2 1 1 1 (pos 0) 0 (pos 0) (pos 2147483647)))) 15
    -- 17 again, after all of theirs: the product of the processors at 1,024, and past it
    ∷ refused (of_grid (flat (among 32) (among 32))) 0
    ∷ refused (of_grid (flat (among 32) (among 33))) 17
    ∷ refused (of_grid (flat (among 1024) (among 1))) 0
    ∷ refused (of_grid (flat (among 5) (among 205))) 17
    ∷ refused (of_grid (solid (among 16) (among 8) (among 8))) 0
    ∷ refused (of_grid (solid (among 5) (among 5) (among 41))) 17
    ∷ refused (of_grid (solid (among 1024) (among 1024) (among 1024))) 17
    ∷ refused (of_grid (flat (among 32) (mapped 2000 33 0 1 0 1))) 3
    ∷ refused (of_grid (flat (among 1024) (among 1025))) 2
    ∷ refused (of_grid (solid (among 32) (among 33) (mapped 2000 1 1 4097 0 1))) 4
    -- the product of the elements at 2,147,483,647, past it, and with a 0 among them: it does not wrap at 32 bits nor at 64
    ∷ refused (of_grid (flat (of_size 2147483647) (of_size 1))) 0
    ∷ refused (of_grid (flat (of_size 2) (of_size 1073741823))) 0
    ∷ refused (of_grid (flat (of_size 2) (of_size 1073741824))) 17
    ∷ refused (of_grid (flat (of_size 65536) (of_size 65536))) 17
    ∷ refused (of_grid (solid (of_size 4194304) (of_size 2097152) (of_size 2097152))) 17
    ∷ refused (of_grid (solid (of_size 0) (of_size 2147483647) (of_size 2147483647))) 0
    ∷ refused (of_grid (solid (of_size 2147483647) (of_size 0) (of_size 2147483647))) 0
    ∷ refused (of_grid (solid (of_size 2147483647) (of_size 2147483647) (of_size 0))) 0
    ∷ refused (of_grid (flat (of_size 65536) (bounded 2147483647 1 1 1 (pos 0) 65536 (pos 2147483647) (pos 0)))) 15
    -- each dimension's sizes are in its own list, and those of a cyclic one are not looked at
    ∷ refused (of_grid (grid_with (lent (pos 3) (runs_of 4) by_two (runs_of 6)) four_none (255 ∷ []) one_five)) 0
    ∷ refused (of_grid (grid_with (lent (pos 3) by_two (runs_of 6) (runs_of 4)) [] one_five four_none)) 0
    ∷ refused (of_grid (grid_with (lent (pos 2) by_two (runs_of 6) (runs_of 4)) one_five four_none one_five)) 16
    ∷ []

-- and about sections of them
unfoldable pub section_refusals : List Refusal
section_refusals =
    -- 17, first of all: a rank that is not 1, 2 or 3
    refused (of_grid_section (ranked_on (pos 0) nowhere nowhere nowhere)) 17
    ∷ refused (of_grid_section (ranked_on (pos 4) up rows rows)) 17
    -- numbers past the rank are not looked at
    ∷ refused (of_grid_section (ranked_on (pos 1) up nowhere nowhere)) 0
    ∷ refused (of_grid_section (ranked_on (pos 2) up nowhere rows)) 1
    -- a dimension puts all of its questions before the next puts any
    ∷ refused (of_grid_section (flat_on (on sixes (pos 0) (pos 6) (pos 1)) nowhere)) 7
    ∷ refused (of_grid_section (flat_on (on sixes (pos 0) (pos 5) (pos 0)) nowhere)) 6
    ∷ refused (of_grid_section (solid_on up (on fives (pos 0) (pos 5) (pos 1)) nowhere)) 7
    -- 17 again, after all of theirs: the product of the processors past 1,024
    ∷ refused (of_grid_section (flat_on (first_of (among 32)) (on (among 33) (pos 0) (pos 1) (pos 1)))) 7
    ∷ refused (of_grid_section (flat_on (first_of (among 32)) (first_of (among 33)))) 17
    -- the product of the elements past 2,147,483,647, and with a 0 among them
    ∷ refused (of_grid_section (solid_on (on (of_size 0) (pos 0) (negsuc 0) (pos 1)) (first_of (of_size 2147483647)) (first_of (of_size 2147483647)))) 0
    ∷ refused (of_grid_section (flat_on (first_of (of_size 65536)) (first_of (of_size 65536)))) 17
    -- 8, of the grid processor's number; 10, of a place that is another's or past the count; 11
    ∷ refused (of_grid_place narrow (pos 5)) 0
    ∷ refused (of_grid_place narrow (pos 6)) 8
    ∷ refused (of_grid_place narrow (negsuc 0)) 8
    ∷ refused (of_grid_place (flat_on up (on fives (pos 0) (pos 5) (pos 1))) (pos 9)) 7
    ∷ refused (of_grid_place full (pos 11)) 0
    ∷ refused (of_grid_place full (pos 12)) 8
    ∷ refused (filled whole (pos 0) (pos 12) (pos 3)) 0
    ∷ refused (filled whole (pos 0) (pos 30) (pos 3)) 0
    ∷ refused (filled whole (pos 0) (pos 1) (pos 3)) 10
    ∷ refused (filled whole (pos 0) (pos 6) (pos 3)) 10
    ∷ refused (filled whole (pos 0) (pos 31) (pos 3)) 10
    ∷ refused (filled whole (pos 0) (negsuc 0) (pos 3)) 10
    ∷ refused (filled whole (pos 4) (pos 1) (pos 2)) 8
    ∷ refused (filled whole (pos 0) (pos 1) (pos 2)) 10
    ∷ refused (filled whole (pos 0) (pos 12) (pos 2)) 11
    ∷ refused (filled whole (pos 0) (pos 12) (pos 1000000)) 0
    ∷ refused (filled whole (pos 0) (pos 12) (pos 1000001)) 11
    ∷ refused (filled full (pos 6) (pos 6) (pos 3)) 10
    ∷ refused (filled full (pos 6) (pos 9) (pos 3)) 0
    -- each dimension's sizes are in its own list, and those of a cyclic one are not looked at
    ∷ refused (of_grid_section (grid_section_with (lent_on (pos 3) (runs_of 4) by_two (runs_of 6)) four_none (255 ∷ []) one_five)) 0
    ∷ refused (of_grid_section (grid_section_with (lent_on (pos 3) by_two (runs_of 6) (runs_of 4)) [] one_five four_none)) 0
    ∷ refused (of_grid_section (grid_section_with (lent_on (pos 2) (runs_of 6) by_two by_two) four_none one_five one_five)) 16
    ∷ []
