-- The answer to a whole sheet, from its content as it is kept; and what the answer promises.
use Prim.Native.Nat.{ℕ, ◌-◌, ◌≤◌, ◌<◌}
use mathlib.Core.Path.{◌≡◌, refl, sym, ◌∙◌, ap, subst}
use mathlib.Core.List.{List, [], ◌∷◌}
use native.Mathlib.Omega.{arith}
use lib.ListN.{length}
use Rattle.std.specs.Prelude.{Result, Ok, Err}
use Rattle.model.specs.Sheets.{Sheet, no_sheet, formed, malformed}
use Rattle.sheet.specs.declared.Content.{Content}
use Rattle.sheet.specs.declared.Malformed.{Malformed}
use Rattle.sheet.specs.Reading.{Got, got, bad, map_got, whole}
use Rattle.sheet.specs.Parts.{Parts, parts}
use Rattle.sheet.specs.Contents.{to_sheet, read_sheet, kept, kept_whole}
use Rattle.sheet.specs.Answers.{read_as, Promised}
use Rattle.sheet.proofs.PartLaws.{parts-format}
use Rattle.sheet.proofs.SheetLaws.{parts-back, reads-back, refusal-place}
use Rattle.sheet.proofs.AnswerLaws.{fewer-after, fewer-from}

-- ---- what the answer promises

pub promised : (s : List ℕ) → Promised s (read_as (length s) (read_sheet s))
promised s = go (read_sheet s) refl
  where
    go : (y : Got Sheet) → read_sheet s ≡ y → Promised s (read_as (length s) y)
    go (got w t) e = record { sheet = w; reads = formed (reads-back s t w e); content = refl }
    go (bad t) e = record { sheet = no_sheet; reads = malformed (refusal-place s t e); content = tt }

pub answered : (s : List ℕ) {r : Result Content Malformed} → r ≡ read_as (length s) (read_sheet s)
    → (r ≡ read_as (length s) (read_sheet s)) × Promised s r
answered s e = (e, subst (Promised s) (sym e) (promised s))

-- where bytes follow all parts, the first of them is refused
pub bytes_left : {A : Type 0} {y : Got A} {a : A} {t : List ℕ} → got a t ≡ y → 0 < length t → bad t ≡ whole y
bytes_left {A = A} {a = a} {t} e h = go t h ∙ ap whole e
  where
    go : (t : List ℕ) → 0 < length t → ◌≡◌ {A = Got A} (bad t) (whole (got a t))
    go [] h = absurd (omega (arith, h))
    go (b ∷ t) h = refl

-- ---- the answer, from the content as it is kept

abbrev refused : ℕ → Result Content Malformed
refused p = Err (record { 0 = p })

module _ (s : List ℕ) {t : List ℕ} where
  -- the bytes from a refusal on are no more than all, and its place follows from them
  pub refused-at : bad t ≡ kept_whole s
      → (length t ≤ length s) × (refused (length s - length t) ≡ read_as (length s) (read_sheet s))
  unfolding read_sheet
  refused-at = go (parts s) refl
    where
      go : (y : Got Parts) → parts s ≡ y → bad t ≡ whole (map_got kept y)
          → (length t ≤ length s) × (refused (length s - length t) ≡ read_as (length s) (whole (map_got to_sheet y)))
      go (got w []) e h = let z : ◌≡◌ {A = ℕ} 0 1 = cc (h) in absurd (omega (arith, z))
      go (got w (b ∷ u)) e h =
          let q : t ≡ b ∷ u = cc (h) in rw q (fewer-after parts-format e, refl)
      go (bad u) e h = let q : t ≡ u = cc (h) in rw q (fewer-from parts-format e, refl)

  pub all-read : {c : Content} → got c t ≡ kept_whole s → Ok c ≡ read_as (length s) (read_sheet s)
  unfolding read_sheet
  all-read {c} = go (parts s) refl
    where
      go : (y : Got Parts) → parts s ≡ y → got c t ≡ whole (map_got kept y)
          → Ok c ≡ read_as (length s) (whole (map_got to_sheet y))
      go (got w []) e h =
          let q : c ≡ kept w = cc (h) in ap Ok (q ∙ ap kept (sym (parts-back s [] w e)))
      go (got w (b ∷ u)) e h = let z : ◌≡◌ {A = ℕ} 0 1 = cc (h) in absurd (omega (arith, z))
      go (bad u) e h = let z : ◌≡◌ {A = ℕ} 0 1 = cc (h) in absurd (omega (arith, z))
