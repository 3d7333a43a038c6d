-- The print of a whole input, as it is given to be written: piece by piece, from what was read of the input. Definitions only.
use Rattle.std.specs.Prelude.{ℕ, ◌+◌, ◌≤◌, ◌≡◌, List, ◌++◌, length, take}
use Rattle.sheet.specs.declared.Content.{Content}
use Rattle.print.specs.declared.parts.Part.{Part}
use Rattle.print.specs.declared.pieces.Left.{Left}
use Rattle.print.specs.Turns.{Stands}
use Rattle.print.specs.Pieces.{Prints, left_text}

-- What was read, the first n bytes of a buffer, is as much of the input s as the buffer holds: all of s, if it is no longer.
abbrev pub Received : List ℕ → List ℕ → ℕ → Type 0
Received s buffer n = take n buffer ≡ take (length buffer) s

-- The print of s, and there is no other, is what was given before, then the piece, which stands in front of `out`, then what is
-- left after it. A piece without bytes comes after the last: what was given before is the whole print.
pub record Gives (s given : List ℕ) (c : Content) (out : List ℕ) (p : Part Left) : Type 0 where
  pub text : List ℕ
  pub prints : Prints s text
  pub only : (u : List ℕ) → Prints s u → u ≡ text
  pub whole : text ≡ given ++ (take p.bytes out ++ left_text c p.next)
  pub last : p.bytes ≡ 0 → text ≡ given

-- a piece that stands in `out`, and after which the print can be gone on with
pub record Waits (out : List ℕ) (p : Part Left) : Type 0 where
  pub within : p.bytes ≤ length out
  pub stands : Stands p.next.turn

-- how many bytes are still to be given
abbrev pub to_give : Content → Part Left → ℕ
to_give c p = p.bytes + length (left_text c p.next)
