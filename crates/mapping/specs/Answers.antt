-- The answers of `mapping`, by cases: the paper's number and values for each. Definitions only.
use Rattle.std.specs.Prelude.{ℕ, ◌≤◌, ◌<◌, Bool, true, cond, ◌&&◌, List, [], ◌∷◌, ◌++◌, eqb, ℤ, pos, nat_abs, ◌+ℤ◌, ◌-ℤ◌, Result, Ok, Err}
use Rattle.model.specs.Mappings.{Dealing, cyclic, gen_block, Mapping}
use Rattle.model.specs.declared.Layout.{Layout}
use Rattle.model.specs.Ownership.{nat, layout_of, rank, held, back_to}
use Rattle.model.specs.Questions.{Question, ask, between, is_below, most, least, most_stride, block_fits, sizes_fit, bounds_fit, cells_fit, first_no, of_mapping}
use Rattle.model.specs.Calls.{OwnershipAnswer, GoingBackAnswer, LocalCountAnswer}
use Rattle.model.specs.Sized.{Sized}
use Rattle.model.specs.declared.Declared.{Declared}
use Rattle.model.specs.declared.refusals.Refusal.{Refusal}
use Rattle.model.specs.Refusals.{number}
use Rattle.mapping.specs.declared.questions.Mapped.{Mapped}
use Rattle.mapping.specs.declared.parts.Home.{Home}

-- T p, the dealing, a b n La Lt as a mapping
abbrev pub mapping_of : ℤ → ℤ → Dealing → ℤ → ℤ → ℤ → ℤ → ℤ → Mapping
mapping_of t p d a b n lower origin =
    record { cells = t; processors = p; dealing = d; stride = a; offset = b; size = n; lower = lower; origin = origin }

-- question 16 before the others: a list is looked through only for a p that passes question 2
abbrev pub list_fits : ℤ → ℤ → Dealing → Bool
list_fits t p (cyclic k) = true
list_fits t p (gen_block sizes left) = between (pos 1) (pos 1024) p && sizes_fit t p sizes left

-- questions 1 to 4 and 16, by the answer to 16
abbrev pub of_dealing : ℤ → ℤ → Dealing → Bool → ℤ → ℤ → List Question
of_dealing t p d listed a b =
    ask 1 (between (pos 1) most t)
    ∷ ask 2 (between (pos 1) (pos 1024) p)
    ∷ ask 3 (block_fits d)
    ∷ ask 16 listed
    ∷ ask 4 (between (pos 1) (pos most_stride) a && between least most b)
    ∷ []

-- all of a mapping's questions, by the answer to 16
abbrev pub of_listed : Bool → Mapping → List Question
of_listed listed m =
    of_dealing m.cells m.processors m.dealing listed m.stride m.offset
    ++ (ask 5 (between (pos 0) most m.size) ∷ ask 15 (bounds_fit m) ∷ ask 5 (cells_fit m) ∷ [])

-- the layout and the lower bound of a mapping that passes its questions, or the first question that is answered no
unfoldable pub mapped_of : Mapping → Result Mapped ℕ
mapped_of m =
    let e = first_no (of_mapping m) in
    cond (eqb e 0) (Ok (record { layout = layout_of m; lower = m.lower })) (Err e)

-- a layout and a lower bound in range
abbrev pub Ranged : Layout → ℤ → Type 0
Ranged l lower = Sized l × (nat_abs lower ≤ 2147483647)

-- what is known of each case: an accepted layout has every bound
abbrev pub Sound : Result Mapped ℕ → Type 0
Sound (Ok x) = Ranged x.layout x.lower
Sound (Err q) = 0 < q

-- ---- the cases of each answer as the paper's numbers; every other field of a refusal is 0

abbrev pub no_owner : ℕ → OwnershipAnswer
no_owner e = record { refusal = e; processor = 0; address = 0 }

abbrev pub owned_as : Result Home Refusal → OwnershipAnswer
owned_as (Ok h) = record { refusal = 0; processor = h.processor; address = h.address.0 }
owned_as (Err e) = no_owner (number e)

abbrev pub not_found : ℕ → GoingBackAnswer
not_found e = record { refusal = e; index = pos 0 }

abbrev pub found_as : Result Declared Refusal → GoingBackAnswer
found_as (Ok j) = record { refusal = 0; index = j.0 }
found_as (Err e) = not_found (number e)

abbrev pub not_counted : ℕ → LocalCountAnswer
not_counted e = record { refusal = e; elements = 0 }

abbrev pub counted_as : Result ℕ Refusal → LocalCountAnswer
counted_as (Ok n) = record { refusal = 0; elements = n }
counted_as (Err e) = not_counted (number e)

-- ---- what is left to ask of an accepted layout, and the answer, by the owner of each index

unfoldable pub ownership_in : (ℕ → ℕ) → Layout → ℤ → ℤ → OwnershipAnswer
ownership_in owner l lower j =
    let i = nat (j -ℤ lower) in
    cond (between lower (lower +ℤ pos l.size -ℤ pos 1) j)
    (record { refusal = 0; processor = owner i; address = rank owner i })
    (no_owner 9)

unfoldable pub going_back_in : (ℕ → ℕ) → Layout → ℤ → ℤ → ℤ → GoingBackAnswer
going_back_in owner l lower q x =
    let j = lower +ℤ pos (back_to owner l.size (nat q) (nat x)) in
    let asked = cond (is_below (pos (held owner l.size (nat q))) x) (record { refusal = 0; index = j }) (not_found 9) in
    cond (is_below (pos l.processors) q) asked (not_found 8)

unfoldable pub local_count_in : (ℕ → ℕ) → Layout → ℤ → LocalCountAnswer
local_count_in owner l q =
    cond (is_below (pos l.processors) q) (record { refusal = 0; elements = held owner l.size (nat q) }) (not_counted 8)
