-- What is printed for some bytes is one text and no other; and the first 8,842 bytes of a longer sheet decide it.
use Prim.Native.Nat.{ℕ, ◌≤◌, ◌<◌}
use mathlib.Core.Path.{◌≡◌, refl, ap}
use mathlib.Core.List.{List}
use lib.ListN.{length, take}
use Rattle.model.specs.Sheets.{Sheet}
use Rattle.model.specs.Sheets as reads
use Rattle.sheet.proofs.SheetLaws.{accepts}
use Rattle.sheet.proofs.WholeLaws.{place-unique}
use Rattle.sheet.proofs.LengthLaws.{cut-reads}
use Rattle.print.specs.Texts.{sheet_line}
use Rattle.print.specs.Pieces.{list_from, Prints, formed, malformed}
use Rattle.print.proofs.PieceLaws.{is-formed, is-malformed}

pub prints-unique : (s : List ℕ) {t u : List ℕ} → Prints s t → Prints s u → t ≡ u
prints-unique s (formed w p) (formed z q) =
    let first = accepts w s p in
    let second = accepts z s q in
    let same : w ≡ z = cc in
    ap (λ (y : Sheet). list_from y 0 (length y.sections)) same
prints-unique s (formed w p) (malformed n h) = absurd (h.refused w p)
prints-unique s (malformed n h) (formed w p) = absurd (h.refused w p)
prints-unique s (malformed n h) (malformed m k) = ap sheet_line (place-unique s n m h k)

pub cut-prints : (s : List ℕ) (m : ℕ) → 8841 < m → m ≤ length s → {t : List ℕ} → Prints (take m s) t → Prints s t
cut-prints s m more within (formed w p) = formed w (is-formed (cut-reads s m more within (reads.formed p)) refl)
cut-prints s m more within (malformed n h) = malformed n (is-malformed (cut-reads s m more within (reads.malformed h)) refl).0
