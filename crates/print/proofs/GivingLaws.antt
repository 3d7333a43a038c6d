-- The pieces of what was read, one after the other, are the whole print of the whole input.
use Prim.Native.Nat.{ℕ, ◌+◌, ◌<◌}
use mathlib.Core.Path.{◌≡◌, sym, ◌∙◌, ap, subst}
use mathlib.Core.Logic.{⊎_elim}
use mathlib.Core.List.{List, [], ◌++◌, append_assoc, append-nil}
use native.Mathlib.Omega.{arith}
use lib.ListN.{length, take, length-append}
use lib.Seq.{length-take-le, take_all}
use Rattle.model.proofs.Rests.{le-or-lt}
use Rattle.sheet.specs.declared.Content.{Content}
use Rattle.print.specs.declared.parts.Part.{Part}
use Rattle.print.specs.declared.pieces.Left.{Left}
use Rattle.print.specs.declared.pieces.Opened.{Opened}
use Rattle.print.specs.Pieces.{Prints, left_text, PieceOf, OpenedOf}
use Rattle.print.specs.Giving.{Received, Gives, Waits, to_give}
use Rattle.print.proofs.PrintsLaws.{prints-unique, cut-prints}

-- what was read decides the print
module _ (s buffer : List ℕ) (n : ℕ) (more : 8841 < length buffer) (h : Received s buffer n) where
  received-prints : {t : List ℕ} → Prints (take n buffer) t → Prints s t
  received-prints {t} p =
      ⊎_elim (λ l. cut-prints s (length buffer) more l read)
      (λ l. subst (λ (x : List ℕ). Prints x t) (take_all (length buffer) s (omega arith)) read) (le-or-lt (length buffer) (length s))
    where
      read : Prints (take (length buffer) s) t
      read = subst (λ (x : List ℕ). Prints x t) h p

  pub opens : {out : List ℕ} {r : Opened} → OpenedOf (take n buffer) out r → Gives s [] r.content out r.piece
  opens v =
      record {
        text = v.text;
        prints = received-prints v.prints;
        only = λ u p. prints-unique s p (received-prints v.prints);
        whole = v.piece.printed;
        last = v.piece.last;
      }

pub waits : {c : Content} {text out : List ℕ} {p : Part Left} → PieceOf c text out p → Waits out p
waits v = record { within = v.within; stands = v.stands }

-- a piece is given, and the next one made
module _ (c : Content) (p : Part Left) {after : List ℕ} {next : Part Left} (v : PieceOf c (left_text c p.next) after next) where
  pub goes_on : {s given out : List ℕ} → Gives s given c out p → Gives s (given ++ take p.bytes out) c after next
  goes_on {s} {given} {out} g =
      record {
        text = g.text;
        prints = g.prints;
        only = g.only;
        whole = split ∙ ap (λ (l : List ℕ). (given ++ take p.bytes out) ++ l) v.printed;
        last = λ z. split ∙ ap (λ (l : List ℕ). (given ++ take p.bytes out) ++ l) (v.last z) ∙ append-nil (given ++ take p.bytes out);
      }
    where
      split : g.text ≡ (given ++ take p.bytes out) ++ left_text c p.next
      split = g.whole ∙ sym (append_assoc given (take p.bytes out) (left_text c p.next))

  pub falls : to_give c next + p.bytes ≡ to_give c p
  falls =
      omega (
        arith,
        ap length v.printed,
        length-append (take next.bytes after) (left_text c next.next),
        length-take-le next.bytes after v.within,
      )
