-- Document 01, "Steps of a section", and the one step of document 02, A5. M stands for pk, the cells of a course, and S for
-- a·|s|. Definitions only.
use Rattle.std.specs.Prelude.{ℕ, suc, ◌+◌, ◌-◌, ◌*◌, ◌/◌, ◌%◌, Bool, true, false, not, cond, ◌&&◌, leb, ltb, eqb, nat_abs}
use Rattle.std.specs.Int.Signed.{non_neg}
use Rattle.numbers.specs.Search.{passing, head_or}
use Rattle.numbers.specs.Gcd.{gcd}
use Rattle.model.specs.Mappings.{Dealing, cyclic, gen_block, Section}
use Rattle.model.specs.declared.Step.{Step}
use Rattle.model.specs.declared.Steps.{Steps}
use Rattle.model.specs.declared.Steps.TheVariants.{NoStep, OneStep, TwoSteps}
use Rattle.model.specs.Ownership.{course_cells, column_of, owner}
use Rattle.model.specs.Sections.{layout, count, index, cell}

-- is y from 1 to k − 1?
abbrev pub is_move : ℕ → ℕ → Bool
is_move k y = leb 1 y && leb y (k - 1)

-- how many S the "processor step" and the "return step" have: the smallest m from 1 on with m·S of the form c·M + y, or of
-- the form c·M − y, y from 1 to k − 1. Rests by M repeat after M multiples. 0 if there is none.
unfoldable pub processor_index : ℕ → ℕ → ℕ → ℕ
processor_index M k S = head_or 0 (passing (λ m. is_move k (m * S % M)) 1 M)

unfoldable pub return_index : ℕ → ℕ → ℕ → ℕ
return_index M k S = head_or 0 (passing (λ m. is_move k (M - m * S % M)) 1 M)

-- each as cells, courses and column move: c·M + y cells, and c·M − y
unfoldable pub processor_step : ℕ → ℕ → ℕ → Step
processor_step M k S =
    let n : ℕ = processor_index M k S * S in
    record { cells = n; courses = n / M; column = n % M }

unfoldable pub return_step : ℕ → ℕ → ℕ → Step
return_step M k S =
    let n : ℕ = return_index M k S * S in
    record { cells = n; courses = n / M + 1; column = M - n % M }

-- the one step where d = gcd(S, M) is k or more: M·S/d cells, S/d courses, column move 0
unfoldable pub one_step : ℕ → ℕ → Step
one_step M S =
    let d : ℕ = gcd S M in
    record { cells = M * S / d; courses = S / d; column = 0 }

-- the steps of a section of so many elements: none for no or one element
unfoldable pub steps_by : ℕ → ℕ → ℕ → ℕ → Steps
steps_by n M k S =
    let pair = TwoSteps (processor_step M k S) (return_step M k S) in
    let single = OneStep (one_step M S) in
    let some = cond (ltb (gcd S M) k) pair single in
    cond (ltb n 2) NoStep some

-- ---- "going on from an element in column q": the tries, and the cells walked

pub record Going : Type 0 where
  pub tries : ℕ
  pub cells : ℕ

-- does a move of y columns, up or down, fit: is q + y at most k − 1, or q − y at least 0?
abbrev pub fits : Bool → ℕ → ℕ → ℕ → Bool
fits true k q y = leb (q + y) (k - 1)
fits false k q y = leb y q

-- try r, then the return step, then their sum; with s negative the column moves change sign
abbrev pub try_both : Bool → ℕ → ℕ → Step → Step → Going
try_both up k q r w =
    cond (fits up k q r.column) (record { tries = 1; cells = r.cells })
    (cond (fits (not up) k q w.column) (record { tries = 2; cells = w.cells })
    (record { tries = 3; cells = r.cells + w.cells }))

-- with one step, or none, the cost is 1 try
abbrev pub go_on : Bool → ℕ → ℕ → Steps → Going
go_on up k q NoStep = record { tries = 1; cells = 0 }
go_on up k q (OneStep x) = record { tries = 1; cells = x.cells }
go_on up k q (TwoSteps r w) = try_both up k q r w

-- ---- of an array's section

-- S = a·|s|
unfoldable pub spread : Section → ℕ
spread x = (layout x).stride * nat_abs x.triplet.stride

-- walking direction: is s positive?
unfoldable pub upward : Section → Bool
upward x = non_neg x.triplet.stride

-- ---- the cyclic dealing

unfoldable pub cyclic_steps : Section → Steps
cyclic_steps x = steps_by (count x) (course_cells (layout x)) (layout x).block (spread x)

unfoldable pub cyclic_going : Section → ℕ → Going
cyclic_going x t = go_on (upward x) (layout x).block (column_of (layout x) (cell x t)) (cyclic_steps x)

-- n cells on from cell c: is that past cell z, in walking direction?
abbrev pub is_past : Bool → ℕ → ℕ → ℕ → Bool
is_past true c n z = ltb z (c + n)
is_past false c n z = ltb c (z + n)

-- "the next place": the count if the cell reached lies past the last element, or if there is no step
unfoldable pub next_by : Section → ℕ → ℕ → Steps → ℕ
next_by x t n NoStep = count x
next_by x t n (OneStep m) = cond (is_past (upward x) (cell x t) n (cell x (count x - 1))) (count x) (t + n / spread x)
next_by x t n (TwoSteps r w) = cond (is_past (upward x) (cell x t) n (cell x (count x - 1))) (count x) (t + n / spread x)

unfoldable pub cyclic_next : Section → ℕ → ℕ
cyclic_next x t = next_by x t (cyclic_going x t).cells (cyclic_steps x)

-- ---- GEN_BLOCK

-- "each step is one section stride, reported as S cells, 0 courses and column move S"
unfoldable pub run_steps : ℕ → ℕ → Steps
run_steps n S = cond (ltb n 2) NoStep (OneStep (record { cells = S; courses = 0; column = S }))

-- the next place of n, by the owner at each: the next position if it has the same owner; "after the processor's last element
-- the place is the count"
unfoldable pub run_next : (ℕ → ℕ) → ℕ → ℕ → ℕ
run_next at n t = cond (ltb (suc t) n && eqb (at (suc t)) (at t)) (suc t) n

-- ---- by the dealing

abbrev pub steps_dealt : Dealing → Section → Steps
steps_dealt (cyclic k) x = cyclic_steps x
steps_dealt (gen_block sizes left) x = run_steps (count x) (spread x)

unfoldable pub steps_of : Section → Steps
steps_of x = steps_dealt x.mapping.dealing x

-- "an element's cost": the tries of going on from its column; along a run 1 try
abbrev pub cost_dealt : Dealing → Section → ℕ → ℕ
cost_dealt (cyclic k) x t = (cyclic_going x t).tries
cost_dealt (gen_block sizes left) x t = 1

unfoldable pub cost : Section → ℕ → ℕ
cost x t = cost_dealt x.mapping.dealing x t

abbrev pub next_dealt : Dealing → Section → ℕ → ℕ
next_dealt (cyclic k) x t = cyclic_next x t
next_dealt (gen_block sizes left) x t = run_next (λ u. owner x.mapping (index x u)) (count x) t

unfoldable pub next_place : Section → ℕ → ℕ
next_place x t = next_dealt x.mapping.dealing x t
