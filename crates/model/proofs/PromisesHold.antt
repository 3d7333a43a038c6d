-- Everything that is promised of the definitions holds.
use Prim.Native.Nat.{ℕ}
use mathlib.Core.Bool.{Bool, true, false, cond}
use lib.Dec.{ltb}
use Rattle.model.specs.declared.Steps.TheVariants.{NoStep, OneStep}
use Rattle.model.specs.Mappings.{Dealing, cyclic, gen_block, Section}
use Rattle.model.specs.Ownership.{course_cells}
use Rattle.model.specs.Sections.{layout, count}
use Rattle.model.specs.Steps.{spread, cyclic_steps, run_steps, steps_dealt, steps_of}
use Rattle.model.specs.Promises.{Accepts, Balanced, Promises}
use Rattle.model.proofs.AcceptedLaws.{accepted}
use Rattle.model.proofs.CaseLaws.{by_cases}
use Rattle.model.proofs.CasesHold.{cases-hold}
use Rattle.model.proofs.SectionLaws.{spread-pos}
use Rattle.model.proofs.StepLaws.{step-cases, determinant, never_both}
use Rattle.model.proofs.WalkLaws.{course}
use Rattle.model.proofs.SmallestHold.{smallest-steps}
use Rattle.model.proofs.PeriodLaws.{repeating}
use Rattle.model.proofs.DirectAddresses.{direct-address}
use Rattle.model.proofs.AnswerLaws.{there_and_back, back-and-there}
use Rattle.model.proofs.ByteFillsHold.{bytes-stay}
use Rattle.model.proofs.Demand1Holds.{demand1}
use Rattle.model.proofs.Demand2Holds.{demand2, elements-of, section-demand2}
use Rattle.model.proofs.Demand3Holds.{demand3, demand3-of-bytes}
use Rattle.model.proofs.TransferLaws.{assigned}
use Rattle.model.proofs.CheckpointsHold.{checkpoints}
use Rattle.model.proofs.ShiftedHolds.{shifted}
use Rattle.model.proofs.Document01Holds.{as-document-01}
use Rattle.model.proofs.StarredHold.{starred}
use Rattle.model.proofs.GenBlockRowsHold.{rows-hold}
use Rattle.model.proofs.GridRowsHold.{grid-rows-hold, grid-refusals-hold, section-refusals-hold}
use Rattle.model.proofs.GridFillCalls.{grid-bytes-stay}
use Rattle.model.proofs.GridDemand1Holds.{grid-demand1}
use Rattle.model.proofs.GridDemand2Holds.{grid-demand2, grid-section-demand2}
use Rattle.model.proofs.GridAnswers.{grid-there-and-back, grid-back-and-there}
use Rattle.model.proofs.GridDemand3Holds.{grid-demand3, grid-demand3-of-bytes}
use Rattle.model.proofs.RankOneHolds.{as-rank-one}

cyclic-balanced : (x : Section) → Accepts x → Balanced (layout x).block (spread x) (cyclic_steps x)
unfolding cyclic_steps
cyclic-balanced x ok =
    let z = (accepted x ok).sized in
    let h = course (layout x) z.processors-pos z.block-pos (spread x) (spread-pos x ok) in
    step-cases (Balanced (layout x).block (spread x)) (count x) (course_cells (layout x)) (layout x).block (spread x)
    (λ few. tt) (λ several d. (determinant h d, never_both h d)) (λ several d. tt)

-- one step, or none
run-balanced : (n k S : ℕ) → Balanced k S (run_steps n S)
unfolding run_steps
run-balanced n k S = go (ltb n 2)
  where
    go : (b : Bool) → Balanced k S (cond b NoStep (OneStep (record { cells = S; courses = 0; column = S })))
    go true = tt
    go false = tt

balanced : (x : Section) → Accepts x → Balanced (layout x).block (spread x) (steps_of x)
unfolding steps_of
balanced x ok = go x.mapping.dealing
  where
    go : (z : Dealing) → Balanced (layout x).block (spread x) (steps_dealt z x)
    go (cyclic k) = cyclic-balanced x ok
    go (gen_block sizes left) = run-balanced (count x) (layout x).block (spread x)

pub promises : Promises
promises = record {
  answers = demand1;
  owners = demand2;
  elements = elements-of;
  sections = section-demand2;
  there_and_back = there_and_back;
  back-and-there = back-and-there;
  direct-addresses = direct-address;
  bounds = shifted;
  without-bounds = as-document-01;
  cases = by_cases;
  cases-by-hand = cases-hold;
  steps = balanced;
  smallest-steps = λ x ok k. smallest-steps x ok;
  repeats = λ x ok k. repeating x ok;
  word-fills = demand3;
  byte-fills = demand3-of-bytes;
  bytes-stay = bytes-stay;
  assignment = assigned;
  checkpoints = checkpoints;
  grid-answers = grid-demand1;
  grid-owners = grid-demand2;
  grid-sections = grid-section-demand2;
  grid-there-and-back = grid-there-and-back;
  grid-back-and-there = grid-back-and-there;
  grid-word-fills = grid-demand3;
  grid-byte-fills = grid-demand3-of-bytes;
  grid-bytes-stay = grid-bytes-stay;
  rank-one = as-rank-one;
  starred = starred;
  gen-block = rows-hold;
  grid-rows = grid-rows-hold;
  grid-refusals = grid-refusals-hold;
  section-refusals = section-refusals-hold;
}
