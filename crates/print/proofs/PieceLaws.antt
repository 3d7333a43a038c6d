-- Each piece is the front of what was left to print.
use Prim.Native.Nat.{ℕ, zero, suc, ◌+◌, ◌-◌, ◌≤◌, ◌<◌}
use mathlib.Core.Path.{◌≡◌, refl, sym, ◌∙◌, ap, subst}
use mathlib.Core.Bool.{Bool, true, false}
use mathlib.Core.List.{List, [], ◌∷◌, ◌++◌, append_assoc, append-nil}
use native.Mathlib.Nat.{pos_of_ne-zero, sub-zero}
use native.Mathlib.Numerals.{add-one}
use native.Mathlib.Omega.{arith}
use lib.Dec.{eqb}
use lib.ListN.{length, length-map}
use Rattle.std.specs.Prelude.{Ok, Err}
use Rattle.model.specs.Mappings.{Section}
use Rattle.model.specs.Questions.{first_no, of_section}
use Rattle.model.specs.Sheets.{Sheet, IsPrint, Place, Reads, no_sheet}
use Rattle.model.specs.Sheets as reads
use Rattle.sheet.specs.declared.Content.{Content}
use Rattle.sheet.specs.Contents.{section_in, content_of, from_section}
use Rattle.sheet.specs.Answers.{Promised}
use Rattle.sheet.proofs.SectionLaws.{section-stands}
use Rattle.print.specs.declared.parts.Turn.{Turn}
use Rattle.print.specs.declared.parts.Turn.TheVariants.{Done}
use Rattle.print.specs.declared.parts.Part.{Part}
use Rattle.print.specs.declared.pieces.Left.{Left}
use Rattle.print.specs.Texts.{section_text, sheet_line, Puts}
use Rattle.print.specs.Turns.{PartOf}
use Rattle.print.proofs.LineLaws.{sheet-length}
use Rattle.print.proofs.PartLaws.{part_of}
use Rattle.print.specs.Pieces.{list_from, formed, malformed, sections_text, sections_from, PieceOf, OpenedOf}

abbrev sign : List ℕ → ℕ
sign [] = 0
sign (a ∷ l) = 1

module _ (c : Content) where
  -- a part of a section, and the sections after it
  piece_of : {text out : List ℕ} {n : ℕ} {t : Turn} → PartOf text out (record { bytes = n; next = t }) → 0 < n → (j : ℕ)
      → PieceOf c (text ++ sections_from c j) out (record { bytes = n; next = record { turn = t; section = j } })
  piece_of v h j =
      record {
        within = v.within;
        printed = rw v.printed (simp append_assoc);
        stands = v.stands;
        last = λ z. absurd (omega arith);
      }

  -- no section is left
  pub no-piece : (out : List ℕ) (j : ℕ) → c.sections.count ≤ j
      → PieceOf c (sections_from c j) out (record { bytes = 0; next = record { turn = Done; section = j } })
  unfolding sections_text
  no-piece out j h =
      let z : c.sections.count - j ≡ 0 = omega arith in
      record { within = omega arith; printed = refl; stands = tt; last = λ e. rw z }

  -- each section has a line
  section-some : (j : ℕ) (x : Section) → section_text j x ≡ [] → ⊥
  unfolding section_text
  section-some j x e = go (eqb (first_no (of_section x)) 0) refl
    where
      go : (b : Bool) → eqb (first_no (of_section x)) 0 ≡ b → ⊥
      go true p = let z : ◌≡◌ {A = ℕ} 1 0 = ap sign (rw p at e) in omega arith
      go false p = let z : ◌≡◌ {A = ℕ} 1 0 = ap sign (rw p at e) in omega arith

  pub section-piece : (out : List ℕ) (j : ℕ) → j < c.sections.count → {n : ℕ} {t : Turn}
      → PartOf (section_text j (section_in c j)) out (record { bytes = n; next = t })
      → PieceOf c (sections_from c j) out (record { bytes = n; next = record { turn = t; section = j + 1 } })
  unfolding sections_text
  section-piece out j h {n} v =
      let some : 0 < n = pos_of_ne-zero (λ z. section-some j (section_in c j) (v.last z)) in
      let e : c.sections.count - j ≡ suc (c.sections.count - suc j) = omega arith in
      rw (e, add-one) (rw add-one at (piece_of v some (j + 1)))

-- ---- the first piece

-- a sheet's sections are those of its content
sections-are : (w : Sheet) (n j : ℕ) → sections_text (content_of w) j n ≡ list_from w j n
unfolding sections_text list_from
sections-are w zero j = refl
sections-are w (suc n) j = rw (section-stands w j, sections-are w n (suc j))

all-sections : (w : Sheet) → sections_from (content_of w) 0 ≡ list_from w 0 (length w.sections)
all-sections w =
    ap (sections_text (content_of w) 0) (sub-zero _ ∙ length-map w.sections from_section) ∙ sections-are w (length w.sections) 0

-- the answer to question 14, of its number and place
pub is-formed : {s : List ℕ} {e n : ℕ} {w : Sheet} → Reads s e n w → e ≡ 0 → IsPrint w s
is-formed (reads.formed p) z = p
is-formed (reads.malformed h) z = absurd (omega arith)

pub is-malformed : {s : List ℕ} {e n : ℕ} {w : Sheet} → Reads s e n w → e ≡ 14 → Place IsPrint s n × (w ≡ no_sheet)
is-malformed (reads.formed p) z = absurd (omega arith)
is-malformed (reads.malformed h) z = (h, refl)

same_text : {c : Content} {t u out : List ℕ} {p : Part Left} → t ≡ u → PieceOf c t out p → PieceOf c u out p
same_text {c} {t} {u} {out} {p} e q = subst (λ (l : List ℕ). PieceOf c l out p) e q

module _ (s : List ℕ) where
  pub opened-formed : {c : Content} → Promised s (Ok c) → {out : List ℕ} {p : Part Left} → PieceOf c (sections_from c 0) out p
      → OpenedOf s out (record { content = c; piece = p })
  opened-formed {c} v {out} {p} q =
      let w = v.sheet in
      let same : sections_from c 0 ≡ list_from w 0 (length w.sections) =
      ap (λ (c : Content). sections_from c 0) v.content ∙ all-sections w in
      record {
        text = list_from w 0 (length w.sections);
        prints = formed w (is-formed v.reads refl);
        piece = same_text same q;
      }

  pub opened-malformed : (c : Content) → c.sections.count ≡ 0 → {n : ℕ} → Promised s (Err (record { 0 = n })) → {out after : List ℕ} {k : ℕ}
      → Puts (sheet_line n) out 0 after k → length (sheet_line n) ≤ length out
      → OpenedOf s after (record { content = c; piece = record { bytes = k; next = record { turn = Done; section = 0 } } })
  unfolding sections_text
  opened-malformed c z {n} v {out} {after} {k} p fits =
      let m = is-malformed v.reads refl in
      let none : sections_from c 0 ≡ [] = rw z in
      let part : PartOf (sheet_line n) after (record { bytes = k; next = Done }) =
      part_of p fits (omega (arith, sheet-length n)) (sym (append-nil _)) tt in
      let some : 0 < k = omega (arith, p.ends, sheet-length n) in
      let piece = piece_of c part some 0 in
      record {
        text = sheet_line n;
        prints = malformed n m.0;
        piece = same_text (ap (λ (l : List ℕ). sheet_line n ++ l) none ∙ append-nil (sheet_line n)) piece;
      }
