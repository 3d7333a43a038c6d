-- The promise of reading a sheet leaves nothing open: it fixes the refusal, its place and the content.
use Prim.Native.Nat.{ℕ}
use mathlib.Core.Path.{◌≡◌, refl, sym, ◌∙◌, ap}
use mathlib.Core.List.{List}
use native.Mathlib.Omega.{arith}
use Rattle.model.specs.Sheets.{Sheet, Reads, formed, malformed}
use Rattle.std.specs.Prelude.{Result, Ok, Err}
use Rattle.sheet.specs.declared.Content.{Content}
use Rattle.sheet.specs.declared.Malformed.{Malformed}
use Rattle.sheet.specs.Contents.{content_of}
use Rattle.sheet.specs.Answers.{Promised}
use Rattle.sheet.proofs.WholeLaws.{place-unique}
use Rattle.sheet.proofs.SheetLaws.{accepts}

pub reads-unique : (s : List ℕ) {e n e' n' : ℕ} {w w' : Sheet} → Reads s e n w → Reads s e' n' w' → (e ≡ e') × (n ≡ n')
    × (w ≡ w')
reads-unique s (formed {w = w} p) (formed {w = w'} q) =
    let e = accepts w s p in
    let e' = accepts w' s q in
    let same : w ≡ w' = cc in
    (refl, refl, same)
reads-unique s (formed {w = w} p) (malformed h) = absurd (h.refused w p)
reads-unique s (malformed h) (formed {w = w} p) = absurd (h.refused w p)
reads-unique s (malformed {n = n} h) (malformed {n = n'} k) = (refl, place-unique s n n' h k, refl)

pub promised-unique : (s : List ℕ) (r r' : Result Content Malformed) → Promised s r → Promised s r' → r ≡ r'
promised-unique s (Ok c) (Ok c') p q =
    ap Ok (p.content ∙ ap content_of (reads-unique s p.reads q.reads).2 ∙ sym q.content)
promised-unique s (Ok c) (Err e) p q = absurd (omega (arith, (reads-unique s p.reads q.reads).0))
promised-unique s (Err e) (Ok c) p q = absurd (omega (arith, (reads-unique s p.reads q.reads).0))
promised-unique s (Err e) (Err e') p q =
    let n = (reads-unique s p.reads q.reads).1 in
    λ i. Err (record { 0 = n i })
