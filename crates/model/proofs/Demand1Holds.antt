-- Demand 1 holds of every call. Assumes nothing.
use Prim.Native.Nat.{ℕ}
use mathlib.Core.Path.{◌≡◌, refl, sym, ◌∙◌}
use mathlib.Core.Bool.{Bool, true, false}
use mathlib.Core.List.{List, [], ◌∷◌, ◌++◌}
use lib.ListN.{length-map}
use borrow.Author.Tests.{eq-eqb, ne_eqb}
use native.Mathlib.Omega.{arith}
use Rattle.model.specs.declared.Steps.{Steps}
use Rattle.model.specs.declared.Steps.TheVariants.{NoStep, OneStep, TwoSteps}
use Rattle.model.specs.Sections.{count, address}
use Rattle.model.specs.Steps.{steps_of}
use Rattle.model.specs.Questions.{ask, first_no, of_mapping, of_section, of_processor, of_index, of_address}
use Rattle.model.specs.Calls.{ownership, going_back, local_count, steps_report, section_steps, first_place_at}
use Rattle.model.specs.Calls.{of_fill, fill}
use Rattle.model.specs.ByteFills.{in_words, bytes_after, outcome_of}
use Rattle.model.specs.Transfers.{TransferCall, places_of, with_entries, of_transfer, entries_of, transfers, lists_after}
use Rattle.model.specs.Sheets.{Sheet, IsPrint, Place, no_sheet, Reads, formed, malformed}
use Rattle.model.specs.Demand1.{Answers, Demand1, Listed, NotListed, Decides}
use Rattle.model.proofs.AnsweredLaws.{either-of}
use Rattle.model.proofs.FillCalls.{fill-answers}
use Rattle.model.proofs.ByteFillsHold.{byte-answers, words_left}
use Rattle.model.proofs.CheckpointsHold.{save-answers, load-answers}

no-refusal : (n : ℕ) (s : Steps) → (steps_report n s).refusal ≡ 0
no-refusal n NoStep = refl
no-refusal n (OneStep x) = refl
no-refusal n (TwoSteps r w) = refl

-- the numbers of a transfer
transfer-numbers : (c : TransferCall)
    → Answers (transfers c) (λ a. a.refusal) (of_transfer c) (λ a. (a.entries ≡ entries_of c) × (a.needed ≡ 0))
    (λ a. (a.entries ≡ 0) × (a.refusal ≡ 13 → a.needed ≡ entries_of c) × ((a.refusal ≡ 13 → ⊥) → a.needed ≡ 0))
unfolding transfers
transfer-numbers c =
    let e : ℕ = first_no (of_transfer c) in
    either-of _ _ _ (of_transfer c) refl _ _ refl refl (refl, refl) (refl, (λ z. rw (eq-eqb e 13 z)), (λ f. rw (ne_eqb e 13 f)))

-- and its lists, as its refusal says
lists-accepted : (c : TransferCall) → (transfers c).refusal ≡ 0
    → lists_after c ≡ with_entries (places_of c) (address c.right) (address c.left) c.lists
unfolding lists_after
lists-accepted c e = rw (eq-eqb (first_no (of_transfer c)) 0 (sym (transfer-numbers c).first ∙ e))

lists-refused : (c : TransferCall) → ((transfers c).refusal ≡ 0 → ⊥) → lists_after c ≡ c.lists
unfolding lists_after
lists-refused c f = rw (ne_eqb (first_no (of_transfer c)) 0 (λ z. f ((transfer-numbers c).first ∙ z)))

transfer-answers : (c : TransferCall) → Answers (transfers c) (λ a. a.refusal) (of_transfer c) (Listed c) (NotListed c)
unfolding entries_of
transfer-answers c =
    let a = transfer-numbers c in
    record {
      first = a.first;
      every = a.every;
      accepted = λ e.
          let v = a.accepted e in
          let l = lists-accepted c e in
          (v.0, v.1, rw (l, v.0), rw (l, v.0, length-map), rw (l, v.0, length-map));
      refused = λ f. let v = a.refused f in (v.0, v.1, v.2, lists-refused c f);
    }

sheet-answers : (s : List ℕ) (e n : ℕ) (w : Sheet) → Reads s e n w → (b : Bool) → Decides s b
    → Answers e (λ a. a) (ask 14 b ∷ []) (λ a. IsPrint w s × (n ≡ 0)) (λ a. Place IsPrint s n × (w ≡ no_sheet))
unfolding first_no
sheet-answers s e n w (formed p) true d =
    record { first = refl; every = λ z. (refl, tt); accepted = λ z. (p, refl); refused = λ f. absurd (f refl) }
sheet-answers s e n w (formed {w = v} p) false d = absurd (d.no refl v p)
sheet-answers s e n w (malformed h) true d = absurd (h.refused (d.yes refl).0 (d.yes refl).1)
sheet-answers s e n w (malformed h) false d =
    record { first = refl; every = λ z. absurd (omega arith); accepted = λ z. absurd (omega arith); refused = λ f. (h, refl) }

pub demand1 : Demand1
unfolding ownership going_back local_count section_steps first_place_at outcome_of bytes_after
demand1 = record {
  of-ownership = λ m i. either-of _ _ _ (of_mapping m ++ of_index m i) refl _ _ refl refl (refl, refl) (refl, (refl, tt));
  of-going-back = λ m q x. either-of _ _ _ (of_mapping m ++ of_processor m q ++ of_address m q x) refl _ _ refl refl refl refl;
  of-local-count = λ m q. either-of _ _ _ (of_mapping m ++ of_processor m q) refl _ _ refl refl refl (refl, tt);
  of-section-steps = λ x.
      either-of _ _ _ (of_section x) refl _ _ (no-refusal (count x) (steps_of x)) refl refl ((refl, (refl, (refl, (refl, (refl, (refl, tt)))))), refl, refl);
  of-first-place = λ x q. either-of _ _ _ (of_section x ++ of_processor x.mapping q) refl _ _ refl refl refl (refl, tt);
  of-fill = fill-answers;
  of-byte-fill = λ c. byte-answers _ _ c.bytes (fill (in_words c)) (of_fill (in_words c)) (words_left c) (λ f n. n.0.0) (fill-answers (in_words c));
  of-transfers = transfer-answers;
  of-save = save-answers;
  of-load = load-answers;
  of-sheet = sheet-answers;
}
