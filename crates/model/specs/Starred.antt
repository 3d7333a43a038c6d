-- The starred cases of document 01, and cases of our own, as one table. Definitions only; proofs/StarredHold.antt computes it.
use Rattle.std.specs.Prelude.{ℕ, Bool, true, false, ◌&&◌, List, [], ◌∷◌, ◌++◌, map, eqb, ℤ, pos, negsuc, replicate}
use Rattle.std.specs.Int.Signed.{le_z}
use Rattle.numbers.specs.Search.{passing}
use Rattle.model.specs.Mappings.{cyclic, Mapping, Section, mapping_with}
use Rattle.model.specs.declared.Mapping as mappings
use Rattle.model.specs.declared.Step.{Step}
use Rattle.model.specs.declared.Steps.{Steps}
use Rattle.model.specs.declared.Steps.TheVariants.{NoStep, OneStep, TwoSteps}
use Rattle.model.specs.Ownership.{layout_of, cell_owner_by, course_by, column_by}
use Rattle.model.specs.Sections.{element_at, count, first_place}
use Rattle.model.specs.Steps.{steps_of}
use Rattle.model.specs.Filling.{got, paid, standing}
use Rattle.model.specs.Questions.{first_no, of_mapping, of_section}
use Rattle.model.specs.Calls.{ownership, going_back, local_count, FillCall, fill, StepReport, SectionStepsAnswer, section_steps}
use Rattle.model.specs.Transfers.{lists_after}
use Rattle.model.specs.Checkpoints.{copy_of, copying, saved, loaded}

-- ---- equality, as a test

abbrev pub same_list : List ℕ → List ℕ → Bool
same_list [] [] = true
same_list [] (y ∷ ys) = false
same_list (x ∷ xs) [] = false
same_list (x ∷ xs) (y ∷ ys) = eqb x y && same_list xs ys

abbrev pub same_numbers : List ℤ → List ℤ → Bool
same_numbers [] [] = true
same_numbers [] (y ∷ ys) = false
same_numbers (x ∷ xs) [] = false
same_numbers (x ∷ xs) (y ∷ ys) = le_z x y && le_z y x && same_numbers xs ys

abbrev same_step : Step → Step → Bool
same_step a b = eqb a.cells b.cells && eqb a.courses b.courses && eqb a.column b.column

abbrev same_steps : Steps → Steps → Bool
same_steps NoStep NoStep = true
same_steps NoStep (OneStep b) = false
same_steps NoStep (TwoSteps b d) = false
same_steps (OneStep a) NoStep = false
same_steps (OneStep a) (OneStep b) = same_step a b
same_steps (OneStep a) (TwoSteps b d) = false
same_steps (TwoSteps a c) NoStep = false
same_steps (TwoSteps a c) (OneStep b) = false
same_steps (TwoSteps a c) (TwoSteps b d) = same_step a b && same_step c d

-- ---- rows

pub data Row : Type 0 where
  -- a mapping has this refusal; and one as a call passes it, with its sizes as bytes
  mapping : Mapping → ℕ → Row
  passed : mappings.Mapping → List ℕ → ℕ → Row
  -- the element of a declared index has this refusal, processor and address; and going back this refusal and declared index
  owned : Mapping → ℤ → ℕ → ℕ → ℕ → Row
  found : Mapping → ℕ → ℕ → ℕ → ℤ → Row
  -- a processor's local count has this refusal and this number; a cell has this owner, course and column
  counted : Mapping → ℕ → ℕ → ℕ → Row
  dealt : Mapping → ℕ → ℕ → ℕ → ℕ → Row
  -- a section has this refusal and these elements, by their declared indices
  elements : Section → ℕ → List ℤ → Row
  -- a section has these steps
  steps : Section → Steps → Row
  -- the call for a section's steps answers these numbers: its refusal, the count, how many steps, and of each its cells, its
  -- courses and its column move
  report : Section → List ℤ → Row
  -- from a processor's first place fills with these quotas, into lists of 8, give these entries, tries and next place;
  -- a quota of 2 is refused
  fills : Section → ℕ → ℕ → List ℕ → List ℕ → ℕ → ℕ → Row
  -- a transfer from a sender to a receiver, into lists of 4, leaves these positions, sender's and receiver's addresses
  transferred : Section → Section → ℕ → ℕ → List ℕ → List ℕ → List ℕ → Row
  -- a save of a storage, into a list of so many words, has this refusal and this number needed and leaves this list; and a load of
  -- words in index order likewise
  saves : Mapping → List ℕ → ℕ → ℕ → ℕ → List ℕ → Row
  loads : Mapping → List ℕ → ℕ → ℕ → ℕ → List ℕ → Row

abbrev step_numbers : StepReport → List ℤ
step_numbers r = pos r.cells ∷ pos r.courses ∷ r.column ∷ []

abbrev pub report_numbers : SectionStepsAnswer → List ℤ
report_numbers a = pos a.refusal ∷ pos a.count ∷ pos a.steps ∷ step_numbers a.first ++ step_numbers a.second

-- the fills of processor q with these quotas, each from the place that stands
abbrev run_from : Section → ℕ → ℕ → List ℕ → List FillCall
run_from x q t [] = []
run_from x q t (z ∷ zs) =
    let c : FillCall = record { section = x; processor = pos q; place = pos t; quota = pos z; list = replicate 8 77 } in
    c ∷ run_from x q (standing t (fill c ∷ [])) zs

abbrev pub holds : Row → Bool
holds (mapping m e) = eqb (first_no (of_mapping m)) e
holds (passed m bytes e) = eqb (first_no (of_mapping (mapping_with m bytes))) e
holds (owned m j e q a) =
    let r = ownership m j in
    same_list (r.refusal ∷ r.processor ∷ r.address ∷ []) (e ∷ q ∷ a ∷ [])
holds (found m q a e j) =
    let r = going_back m (pos q) (pos a) in
    same_numbers (pos r.refusal ∷ r.index ∷ []) (pos e ∷ j ∷ [])
holds (counted m q e n) =
    let r = local_count m (pos q) in
    same_list (r.refusal ∷ r.elements ∷ []) (e ∷ n ∷ [])
holds (dealt m c q y z) =
    let d = m.dealing in
    let l = layout_of m in
    same_list (cell_owner_by d l c ∷ course_by d l c ∷ column_by d l c ∷ []) (q ∷ y ∷ z ∷ [])
holds (elements x e js) =
    eqb (first_no (of_section x)) e && same_numbers (map (element_at x.triplet) (passing (λ t. true) 0 (count x))) js
holds (steps x s) = same_steps (steps_of x) s
holds (report x zs) = same_numbers (report_numbers (section_steps x)) zs
holds (fills x q t quotas xs tries next) =
    let os = map fill (run_from x q t quotas) in
    eqb (first_place x q) t && same_list (got os) xs && eqb (paid os) tries && eqb (standing t os) next
holds (transferred left right q m ts sent received) =
    let none : List ℕ = replicate 4 77 in
    let x = lists_after
    (record {
      left = left;
      right = right;
      sender = pos q;
      receiver = pos m;
      lists = record { positions = none; sent = none; received = none };
    }) in
    same_list x.positions ts && same_list x.sent sent && same_list x.received received
holds (saves m s room e n after) =
    let c = copy_of m s (replicate room 77) in
    same_list ((copying c).refusal ∷ (copying c).needed ∷ []) (e ∷ n ∷ []) && same_list (saved c) after
holds (loads m w room e n after) =
    let c = copy_of m w (replicate room 77) in
    same_list ((copying c).refusal ∷ (copying c).needed ∷ []) (e ∷ n ∷ []) && same_list (loaded c) after

abbrev pub every : List Row → Bool
every [] = true
every (r ∷ rs) = holds r && every rs

-- ---- the sections of the table

abbrev pub mapped : ℕ → ℕ → ℕ → ℕ → ℕ → ℕ → Mapping
mapped T p k a b n =
    record { cells = pos T; processors = pos p; dealing = cyclic (pos k); stride = pos a; offset = pos b; size = pos n; lower = pos 0; origin = pos 0 }

-- the same with declared bounds
abbrev pub bounded : ℕ → ℕ → ℕ → ℕ → ℤ → ℕ → ℤ → ℤ → Mapping
bounded T p k a b n La Lt =
    record { cells = pos T; processors = pos p; dealing = cyclic (pos k); stride = pos a; offset = b; size = pos n; lower = La; origin = Lt }

abbrev pub on : Mapping → ℤ → ℤ → ℤ → Section
on m l h s = record { mapping = m; triplet = record { lower = l; upper = h; stride = s } }

-- 0:95:7 and 91:0:-7 on T 96, p 3, k 4
abbrev forward : Section
forward = on (mapped 96 3 4 1 0 96) (pos 0) (pos 95) (pos 7)

abbrev backward : Section
backward = on (mapped 96 3 4 1 0 96) (pos 91) (pos 0) (negsuc 6)

-- document 004, figure 8.1
abbrev aligned : Section
aligned = on (mapped 144 4 4 3 0 48) (pos 0) (pos 47) (pos 3)

-- our own: 41:2:-3 on figure 8.1's array
abbrev aligned_down : Section
aligned_down = on (mapped 144 4 4 3 0 48) (pos 41) (pos 2) (negsuc 2)

-- one step
abbrev single : Section
single = on (mapped 12 3 2 1 0 12) (pos 0) (pos 11) (pos 6)

-- our own: 0:90:7 with its elements moved on by 5 cells
abbrev offset : Section
offset = on (mapped 96 3 4 1 5 91) (pos 0) (pos 90) (pos 7)

-- document 02, A1: A(1:100) aligned with T(2*j-2), T(0:199)
abbrev from_one : Mapping
from_one = bounded 200 3 4 2 (negsuc 1) 100 (pos 1) (pos 0)

-- our own: A(-3:20) aligned with T(j), T(-5:26)
abbrev from_below : Mapping
from_below = bounded 32 3 4 1 (pos 0) 24 (negsuc 2) (negsuc 4)

-- our own: 8 elements on cells 1, 4, .. 22 of 24, dealt to 3 processors by 4: elements 0 4, 1 2 5 6 and 3 7
abbrev pictured : Mapping
pictured = mapped 24 3 4 3 1 8

abbrev of_size : ℕ → ℤ → ℤ → ℤ → Section
of_size n l h s = on (mapped 12 3 2 1 0 n) l h s

-- 3:3:1, which is element 3 alone
abbrev lone : Section
lone = of_size 8 (pos 3) (pos 3) (pos 1)

abbrev pub step : ℕ → ℕ → ℕ → Step
step x c y = record { cells = x; courses = c; column = y }

unfoldable pub table : List Row
table =
    fills forward 0 0 (100 ∷ []) (0 ∷ 6 ∷ 17 ∷ 23 ∷ 28 ∷ []) 8 14
    ∷ fills forward 1 1 (100 ∷ []) (3 ∷ 8 ∷ 14 ∷ 25 ∷ 31 ∷ []) 9 14
    ∷ fills forward 2 3 (100 ∷ []) (5 ∷ 11 ∷ 16 ∷ 22 ∷ []) 7 14
    ∷ steps forward (TwoSteps (step 14 1 2) (step 21 2 3))
    ∷ report forward (pos 0 ∷ pos 14 ∷ pos 2 ∷ pos 14 ∷ pos 1 ∷ pos 2 ∷ pos 21 ∷ pos 2 ∷ negsuc 2 ∷ [])
    ∷ fills forward 0 0 (4 ∷ []) (0 ∷ 6 ∷ []) 4 7
    ∷ fills backward 1 0 (100 ∷ []) (31 ∷ 25 ∷ 14 ∷ 8 ∷ 3 ∷ []) 8 14
    ∷ fills aligned 0 0 (100 ∷ []) (0 ∷ 2 ∷ 7 ∷ 9 ∷ []) 7 16
    ∷ fills aligned 1 4 (100 ∷ []) (2 ∷ 4 ∷ 9 ∷ 11 ∷ []) 7 16
    ∷ fills aligned 2 1 (100 ∷ []) (0 ∷ 2 ∷ 5 ∷ 7 ∷ []) 7 16
    ∷ fills aligned 3 5 (100 ∷ []) (3 ∷ 5 ∷ 8 ∷ 10 ∷ []) 7 16
    ∷ steps single (OneStep (step 6 1 0))
    ∷ report single (pos 0 ∷ pos 2 ∷ pos 1 ∷ pos 6 ∷ pos 1 ∷ pos 0 ∷ pos 0 ∷ pos 0 ∷ pos 0 ∷ [])
    ∷ fills single 0 0 (100 ∷ []) (0 ∷ 2 ∷ []) 2 2
    ∷ fills single 1 2 (100 ∷ []) [] 0 2
    ∷ fills single 2 2 (100 ∷ []) [] 0 2
    ∷ elements (of_size 0 (pos 5) (pos 1) (pos 3)) 0 []
    ∷ elements (of_size 10 (pos 9) (pos 0) (negsuc 3)) 0 (pos 9 ∷ pos 5 ∷ pos 1 ∷ [])
    ∷ elements (of_size 8 (pos 0) (pos 10) (pos 7)) 0 (pos 0 ∷ pos 7 ∷ [])
    ∷ elements (of_size 8 (pos 0) (pos 14) (pos 7)) 7 (pos 0 ∷ pos 7 ∷ pos 14 ∷ [])
    -- our own: 5:4:3 has no elements
    ∷ elements (of_size 8 (pos 5) (pos 4) (pos 3)) 0 []
    -- a second fill goes on where the first one stopped, also after a refused one, and a quota may end inside a list
    ∷ fills forward 0 0 (4 ∷ 100 ∷ []) (0 ∷ 6 ∷ 17 ∷ 23 ∷ 28 ∷ []) 8 14
    ∷ fills forward 0 0 (4 ∷ 2 ∷ 100 ∷ []) (0 ∷ 6 ∷ 17 ∷ 23 ∷ 28 ∷ []) 8 14
    ∷ fills forward 1 1 (3 ∷ 6 ∷ []) (3 ∷ 8 ∷ 14 ∷ []) 6 11
    -- an offset, whose cells take no address
    ∷ fills offset 0 1 (100 ∷ []) (0 ∷ 6 ∷ 17 ∷ 23 ∷ []) 7 13
    ∷ fills offset 1 0 (100 ∷ []) (0 ∷ 6 ∷ 11 ∷ 17 ∷ 28 ∷ []) 8 13
    ∷ fills offset 2 4 (100 ∷ []) (9 ∷ 15 ∷ 20 ∷ 26 ∷ []) 7 13
    -- one element has no steps, and costs 1 try
    ∷ steps lone NoStep
    ∷ report lone (pos 0 ∷ pos 1 ∷ pos 0 ∷ pos 0 ∷ pos 0 ∷ pos 0 ∷ pos 0 ∷ pos 0 ∷ pos 0 ∷ [])
    ∷ fills lone 1 0 (100 ∷ []) (1 ∷ []) 1 1
    -- a refused section has no count and no steps
    ∷ report (of_size 8 (pos 0) (pos 14) (pos 7)) (pos 7 ∷ pos 0 ∷ pos 0 ∷ pos 0 ∷ pos 0 ∷ pos 0 ∷ pos 0 ∷ pos 0 ∷ pos 0 ∷ [])
    -- declared bounds
    ∷ owned from_one (pos 1) 0 0 0
    ∷ owned from_one (pos 100) 0 1 33
    ∷ owned from_one (pos 0) 9 0 0
    ∷ found from_one 1 33 0 (pos 100)
    ∷ found from_one 1 34 9 (pos 0)
    ∷ fills (on from_one (pos 1) (pos 100) (pos 7)) 0 0 (100 ∷ []) (0 ∷ 3 ∷ 14 ∷ 17 ∷ 28 ∷ 31 ∷ []) 9 15
    ∷ fills (on from_one (pos 1) (pos 100) (pos 7)) 1 2 (100 ∷ []) (4 ∷ 7 ∷ 18 ∷ 21 ∷ 32 ∷ []) 7 15
    ∷ elements (on from_one (pos 0) (pos 10) (pos 5)) 7 (pos 0 ∷ pos 5 ∷ pos 10 ∷ [])
    -- a negative lower bound, and a section that goes down
    ∷ owned from_below (negsuc 2) 0 0 0
    ∷ owned from_below (pos 20) 0 0 7
    ∷ found from_below 0 0 0 (negsuc 2)
    ∷ found from_below 1 1 0 (pos 0)
    ∷ elements (on from_below (pos 20) (negsuc 2) (negsuc 9)) 0 (pos 20 ∷ pos 10 ∷ pos 0 ∷ [])
    ∷ steps (on from_below (pos 20) (negsuc 2) (negsuc 4)) (TwoSteps (step 15 1 3) (step 10 1 2))
    ∷ fills (on from_below (pos 20) (negsuc 2) (negsuc 4)) 0 0 (100 ∷ []) (7 ∷ 5 ∷ []) 3 5
    ∷ fills (on from_below (pos 20) (negsuc 2) (negsuc 4)) 2 1 (100 ∷ []) (4 ∷ 2 ∷ []) 5 5
    -- 15 stands before the cells of 5, and is asked of an array without elements too
    ∷ mapping (bounded 10 1 1 1 (pos 0) 2 (pos 2147483647) (pos 0)) 15
    ∷ mapping (bounded 2 1 1 1 (pos 0) 0 (pos 0) (pos 2147483647)) 15
    ∷ mapping (bounded 10 1 1 1 (negsuc 0) 2 (pos 0) (pos 0)) 5
    ∷ mapping (bounded 10 1 1 1 (negsuc 0) 2 (pos 1) (pos 0)) 0
    -- document 02, A2: positions rise, whichever side goes down; and a refused transfer, its lists too short, writes nothing
    ∷ transferred forward aligned_down 2 0 (0 ∷ 2 ∷ 9 ∷ 77 ∷ []) (10 ∷ 8 ∷ 3 ∷ 77 ∷ []) (0 ∷ 6 ∷ 23 ∷ 77 ∷ [])
    ∷ transferred aligned_down forward 0 2 (0 ∷ 2 ∷ 9 ∷ 77 ∷ []) (0 ∷ 6 ∷ 23 ∷ 77 ∷ []) (10 ∷ 8 ∷ 3 ∷ 77 ∷ [])
    ∷ transferred forward forward 1 1 (77 ∷ 77 ∷ 77 ∷ 77 ∷ []) (77 ∷ 77 ∷ 77 ∷ 77 ∷ []) (77 ∷ 77 ∷ 77 ∷ 77 ∷ [])
    -- document 02, A3: the processors' words laid end to end, and in index order; a word beyond them stays
    ∷ saves pictured (30 ∷ 34 ∷ 31 ∷ 32 ∷ 35 ∷ 36 ∷ 33 ∷ 37 ∷ []) 9 0 0 (30 ∷ 31 ∷ 32 ∷ 33 ∷ 34 ∷ 35 ∷ 36 ∷ 37 ∷ 77 ∷ [])
    ∷ loads pictured (30 ∷ 31 ∷ 32 ∷ 33 ∷ 34 ∷ 35 ∷ 36 ∷ 37 ∷ []) 9 0 0 (30 ∷ 34 ∷ 31 ∷ 32 ∷ 35 ∷ 36 ∷ 33 ∷ 37 ∷ 77 ∷ [])
    -- saved on one machine shape, where processors 1 and 3 have no element, and loaded on another, with bounds
    ∷ saves (mapped 12 4 1 2 0 4) (40 ∷ 42 ∷ 41 ∷ 43 ∷ []) 4 0 0 (40 ∷ 41 ∷ 42 ∷ 43 ∷ [])
    ∷ loads (bounded 12 2 1 1 (pos 0) 4 (pos 1) (pos 0)) (40 ∷ 41 ∷ 42 ∷ 43 ∷ []) 4 0 0 (41 ∷ 43 ∷ 40 ∷ 42 ∷ [])
    -- either list too short by one
    ∷ saves pictured (30 ∷ 34 ∷ 31 ∷ 32 ∷ 35 ∷ 36 ∷ 33 ∷ []) 8 13 8 (77 ∷ 77 ∷ 77 ∷ 77 ∷ 77 ∷ 77 ∷ 77 ∷ 77 ∷ [])
    ∷ loads pictured (30 ∷ 31 ∷ 32 ∷ 33 ∷ 34 ∷ 35 ∷ 36 ∷ 37 ∷ []) 7 13 8 (77 ∷ 77 ∷ 77 ∷ 77 ∷ 77 ∷ 77 ∷ 77 ∷ [])
    -- document 02, A6: the largest stride, and one more; one element of a section that goes on by 2,147,483,647 times 4,096 cells
    ∷ mapping (mapped 4097 2 1 4096 0 2) 0
    ∷ mapping (mapped 4097 2 1 4097 0 1) 4
    ∷ steps (on (mapped 4097 2 1 4096 0 2) (pos 1) (pos 1) (pos 2147483647)) NoStep
    ∷ fills (on (mapped 4097 2 1 4096 0 2) (pos 1) (pos 1) (pos 2147483647)) 0 0 (100 ∷ []) (1 ∷ []) 1 1
    ∷ []
