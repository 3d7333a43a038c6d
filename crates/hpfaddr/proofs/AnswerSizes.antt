-- Every number of an answer fits its field of the C header: those of a mapping by model's `AnswerLaws`, the others here.
use Prim.Native.Nat.{ℕ, ◌≤◌}
use mathlib.Core.Path.{◌≡◌, refl}
use mathlib.Core.Bool.{Bool, true, false, cond}
use mathlib.Core.List.{◌++◌}
use native.Mathlib.Nat.{le_refl}
use native.Mathlib.Omega.{arith}
use lib.Dec.{eqb}
use lib.IntN.{ℤ, pos}
use borrow.Author.Tests.{eqb-true}
use Rattle.numbers.proofs.SearchLaws.{tally-le, head-le}
use Rattle.numbers.proofs.Signed.{size-neg}
use Rattle.model.specs.Mappings.{Section}
use Rattle.model.specs.declared.Step.{Step}
use Rattle.model.specs.declared.Steps.{Steps}
use Rattle.model.specs.declared.Steps.TheVariants.{NoStep, OneStep, TwoSteps}
use Rattle.model.specs.Ownership.{nat, layout_of}
use Rattle.model.specs.Sections.{count, owns_at, places, first_place}
use Rattle.model.specs.Steps.{steps_of}
use Rattle.model.specs.Filling.{answer}
use Rattle.model.specs.Questions.{first_no, of_mapping, of_section, of_processor}
use Rattle.model.specs.Calls.{steps_report, forward, backward, section_steps, first_place_at, FillCall, of_fill, request_of, fill}
use Rattle.model.specs.Transfers.{TransferCall, is_entry, pair_places, of_transfer, entries_of, transfers}
use Rattle.model.specs.Checkpoints.{CopyCall, words_in, of_copy, copying}
use Rattle.model.proofs.QuestionLaws.{both_yes, front-passed}
use Rattle.model.proofs.AcceptedLaws.{mapped}
use Rattle.model.proofs.AnsweredLaws.{refusal-le, answered}
use Rattle.model.proofs.FillCalls.{fill-cases}
use Rattle.model.proofs.StepSizes.{Low, AllLow, steps_low}
use Rattle.model.proofs.FillBounds.{fill-bounds}
use Rattle.model.proofs.TransferLaws.{passing-count}
use Rattle.section.specs.Strides.{strided_of}
use Rattle.section.proofs.StridedSections.{bounded}
use Rattle.fill.specs.Answers.{report_of}
use Rattle.hpfaddr.specs.Sizes.{In32, In64, StepFits, StepsFit, PlacedFits, FilledFits, TransferredFits, CopiedFits}

pub count_small : (x : Section) → first_no (of_section x) ≡ 0 → count x ≤ 2147483647
unfolding strided_of
count_small x ok = (bounded x ok).count-high

-- ---- section steps

forward-fits : (r : Step) → Low r → StepFits (forward r)
forward-fits r l = omega (arith, l.cells, l.courses, l.column)

backward-fits : (r : Step) → Low r → StepFits (backward r)
backward-fits r l = omega (arith, l.cells, l.courses, l.column, size-neg (pos r.column))

pub report-fits : (n : ℕ) → In64 n → (s : Steps) → AllLow s → StepsFit (steps_report n s)
report-fits n h NoStep l = omega arith
report-fits n h (OneStep r) l = (omega arith, h, omega arith, forward-fits r l, omega arith)
report-fits n h (TwoSteps r w) l = (omega arith, h, omega arith, forward-fits r l.0, backward-fits w l.1)

pub section-steps-small : (x : Section) → StepsFit (section_steps x)
unfolding section_steps
section-steps-small x =
    answered StepsFit (of_section x) refl _ _
    (λ none. report-fits (count x) (omega (arith, count_small x none)) (steps_of x) (steps_low x none))
    (λ low. omega arith)

-- ---- first place

pub first-place-small : (x : Section) (q : ℤ) → PlacedFits (first_place_at x q)
unfolding first_place_at first_place places
first-place-small x q =
    answered PlacedFits (of_section x ++ of_processor x.mapping q) refl _ _
    (λ none.
    let ok = (both_yes (of_section x) (of_processor x.mapping q) refl none).0 in
    (omega arith, omega (arith, head-le (owns_at x (nat q)) (count x) (count x) (count x) 0 (le_refl _) (omega arith), count_small x ok)))
    (λ low. omega arith)

-- ---- fill

place-small : (c : FillCall) → In32 (fill c).filled.place
place-small c =
    fill-cases c (λ f. f.place ≤ count c.section → In32 f.place)
    (λ y h. omega (arith, count_small c.section y.section))
    (λ f z h. omega (arith, z.0.1.1.0))
    (fill-bounds c).place

pub fill-small : (c : FillCall) → FilledFits (report_of (fill c))
unfolding fill answer request_of
fill-small c =
    let w = fill-bounds c in
    (omega (arith, refusal-le 16 (of_fill c) refl), omega (arith, w.entries, w.tries), omega (arith, w.tries), place-small c)

-- ---- transfers

-- a pair has no more entries than its left section has elements
entries-small : (c : TransferCall) → first_no (of_section c.left) ≡ 0 → In32 (entries_of c)
unfolding entries_of pair_places
entries-small c ok =
    let f = is_entry c.left c.right (nat c.sender) (nat c.receiver) in
    let n = count c.left in
    omega (arith, passing-count f n, tally-le f n, count_small c.left ok)

-- so the number of entries, which only 0 and 13 report, is small
pub transfers-small : (c : TransferCall) → TransferredFits (transfers c)
unfolding transfers
transfers-small c =
    answered TransferredFits (of_transfer c) refl _ _
    (λ none. (omega arith, entries-small c (front-passed 0 (of_section c.left) _ refl none), omega arith))
    (λ low. (omega arith, omega arith, needed (eqb (first_no (of_transfer c)) 13) refl))
  where
    needed : (b : Bool) → eqb (first_no (of_transfer c)) 13 ≡ b → In32 (cond b (entries_of c) 0)
    needed true p = entries-small c (front-passed 13 (of_section c.left) _ refl (eqb-true _ 13 p))
    needed false p = omega arith

-- ---- checkpoints

-- the words needed, which only 13 reports, are those of a mapping that passed
pub copying-small : (c : CopyCall) → CopiedFits (copying c)
unfolding copying layout_of
copying-small c =
    answered CopiedFits (of_copy c) refl _ _ (λ none. omega arith) (λ low. (omega arith, needed (eqb (first_no (of_copy c)) 13) refl))
  where
    needed : (b : Bool) → eqb (first_no (of_copy c)) 13 ≡ b → In32 (cond b (words_in c.mapping) 0)
    needed true p =
        omega (arith, (mapped c.mapping (front-passed 13 (of_mapping c.mapping) _ refl (eqb-true _ 13 p))).size-high)
    needed false p = omega arith
