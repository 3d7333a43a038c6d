-- A mapping with declared bounds answers as the one with bounds 0 whose elements sit on the same cells. Assumes nothing.
use Prim.Native.Nat.{ℕ}
use mathlib.Core.Path.{◌≡◌, refl, sym, ap, ◌∙◌}
use mathlib.Core.Bool.{cond, ◌&&◌}
use mathlib.Core.List.{List, ◌++◌}
use lib.Dec.{eqb}
use lib.ListN.{length, take}
use Rattle.model.specs.Mappings.{Section}
use Rattle.model.specs.Ownership.{nat}
use Rattle.model.specs.Sections.{count}
use Rattle.numbers.specs.Search.{passing}
use Rattle.numbers.specs.Words.{words_of}
use Rattle.model.specs.Filling.{answer}
use Rattle.model.specs.Questions.{Question, first_no, is_below, of_section, of_processor, of_place, of_quota}
use Rattle.model.specs.Calls.{FillCall, of_fill, request_of, fill}
use Rattle.model.specs.ByteFills.{ByteFill, in_words, store_entries, bytes_after, outcome_of}
use Rattle.model.specs.Transfers.{TransferCall, is_entry, pair_places, places_of, of_counts, of_room, entries_of, of_transfer, transfers, with_entries, lists_after}
use Rattle.model.specs.Storages.{storage_place, copied}
use Rattle.model.specs.Checkpoints.{CopyCall, words_in, of_words, of_copy, copying, place_of, after_copy, saved, loaded}
use Rattle.model.specs.Shifted.{from_zero, section_from_zero, fill_from_zero, byte_fill_from_zero, transfer_from_zero, copy_from_zero, BothPass, BothIn, Shifted}
use Rattle.model.proofs.ZeroBounds.{passes}
use Rattle.model.proofs.ShiftedSections.{ownership-alike, going-back-alike, local-count-alike, owner-alike, asked-m, asked-z}
use Rattle.model.proofs.ShiftedSections.{owns-alike, address-alike, count-alike, place-alike, walk-alike, asked-alike, section-steps-alike, first-place-alike}

pub fill-alike : (c : FillCall) → BothIn c.section → fill c ≡ fill (fill_from_zero c)
unfolding fill request_of first_no
fill-alike c both =
    let x = c.section in
    let d = fill_from_zero c in
    let rest : FillCall → List Question = λ k.
    of_processor k.section.mapping k.processor ++ of_place k.section k.processor k.place ++ of_quota k.quota in
    let place = place-alike x c.processor c.place in
    let e : first_no (of_fill c) ≡ first_no (of_fill d) =
    asked-alike x both (rest c) (rest d)
    (λ i. cond (is_below x.mapping.processors c.processor) (cond (place i) (first_no (of_quota c.quota)) 10) 8) in
    λ i. answer (walk-alike x i) (record { refusal = e i; place = nat c.place; quota = nat c.quota; list = c.list })

pub byte-fill-alike : (c : ByteFill) → BothIn c.section
    → (outcome_of c ≡ outcome_of (byte_fill_from_zero c)) × (bytes_after c ≡ bytes_after (byte_fill_from_zero c))
unfolding outcome_of bytes_after in_words
byte-fill-alike c both =
    let f = fill-alike (in_words c) both in
    let after : bytes_after c ≡ bytes_after (byte_fill_from_zero c) =
    λ i. store_entries c.bytes 0 (take (f i).filled.entries (f i).filled.list) in (
      λ i. record {
        refusal = (f i).refusal;
        filled = record { entries = (f i).filled.entries; tries = (f i).filled.tries; place = (f i).filled.place; list = words_of 4 (after i) };
      },
      after,
    )

pairs-alike : (left right : Section) (q m : ℕ)
    → pair_places left right q m ≡ pair_places (section_from_zero left) (section_from_zero right) q m
unfolding pair_places is_entry
pairs-alike left right q m = λ i.
    passing (λ t. owns-alike right q t i && owns-alike left m t i) 0 (count-alike left i)

module _ (c : TransferCall) (l : BothIn c.left) (r : BothIn c.right) where
  abbrev d : TransferCall
  d = transfer_from_zero c

  places-alike : places_of c ≡ places_of d
  places-alike = pairs-alike c.left c.right (nat c.sender) (nat c.receiver)

  entries-alike : entries_of c ≡ entries_of d
  unfolding entries_of
  entries-alike = ap length places-alike

  asked-transfer : first_no (of_transfer c) ≡ first_no (of_transfer d)
  unfolding first_no
  asked-transfer =
      let tail : TransferCall → List Question = λ k.
      of_processor k.right.mapping k.sender ++ of_processor k.left.mapping k.receiver
      ++ of_counts (count k.left) (count k.right) ++ of_room (entries_of k) k.lists in
      let tails : first_no (tail c) ≡ first_no (tail d) = λ i.
      cond (is_below c.right.mapping.processors c.sender)
      (cond (is_below c.left.mapping.processors c.receiver)
      (cond (eqb (count-alike c.left i) (count-alike c.right i)) (first_no (of_room (entries-alike i) c.lists)) 12) 8) 8 in
      asked-alike c.left l (of_section c.right ++ tail c) (of_section d.right ++ tail d)
      (asked-alike c.right r (tail c) (tail d) tails)

  pub transfers-alike : (transfers c ≡ transfers d) × (lists_after c ≡ lists_after d)
  unfolding transfers lists_after
  transfers-alike = (
    λ i. cond (eqb (asked-transfer i) 0) (record { refusal = 0; entries = entries-alike i; needed = 0 })
        (record { refusal = asked-transfer i; entries = 0; needed = cond (eqb (asked-transfer i) 13) (entries-alike i) 0 }),
    λ i. cond (eqb (asked-transfer i) 0)
        (with_entries (places-alike i) (λ t. address-alike c.right t i) (λ t. address-alike c.left t i) c.lists) c.lists,
  )

-- ---- save and load

module _ (c : CopyCall) (both : BothPass c.mapping) where
  asked-copy : first_no (of_copy c) ≡ first_no (of_copy (copy_from_zero c))
  asked-copy =
      let rest = of_words (words_in c.mapping) c.read c.written in
      asked-m c.mapping both rest ∙ sym (asked-z c.mapping both rest)

  copying-alike : copying c ≡ copying (copy_from_zero c)
  unfolding copying
  copying-alike = λ i. cond (eqb (asked-copy i) 0) (record { refusal = 0; needed = 0 })
      (record { refusal = asked-copy i; needed = cond (eqb (asked-copy i) 13) (words_in c.mapping) 0 })

  storage-alike : place_of c.mapping ≡ place_of (from_zero c.mapping)
  storage-alike = λ i. storage_place (owner-alike c.mapping i) (words_in c.mapping)

  copied-alike : (from to from' to' : ℕ → ℕ) → from ≡ from' → to ≡ to' → after_copy from to c ≡ after_copy from' to' (copy_from_zero c)
  unfolding after_copy
  copied-alike from to from' to' f t = λ i.
      cond (eqb (asked-copy i) 0) (copied (f i) (t i) (words_in c.mapping) c.read c.written) c.written

  save-alike : (copying c ≡ copying (copy_from_zero c)) × (saved c ≡ saved (copy_from_zero c))
  save-alike = (copying-alike, copied-alike _ _ _ _ storage-alike refl)

  load-alike : (copying c ≡ copying (copy_from_zero c)) × (loaded c ≡ loaded (copy_from_zero c))
  load-alike = (copying-alike, copied-alike _ _ _ _ refl storage-alike)

pub shifted : Shifted
shifted = record {
  passes = passes;
  of-ownership = ownership-alike;
  of-going-back = going-back-alike;
  of-local-count = local-count-alike;
  of-section-steps = section-steps-alike;
  of-first-place = first-place-alike;
  of-fill = fill-alike;
  of-byte-fill = byte-fill-alike;
  of-transfers = transfers-alike;
  of-save = save-alike;
  of-load = load-alike;
}
