-- `main` lends enough room, and ends: what is still to be given falls by each piece. The loop keeps that the piece in `out` is
-- the next of the print that was begun.
use Rattle.std.proofs.Common.{◌≡◌, ℕ, List, [], length}
use Rattle.print.specs.Giving.{Gives, Waits, to_give}
use Rattle.list.proofs.main.Given as goal

abbrev pub invariant-loop-piece : goal.invariant-loop-piece
invariant-loop-piece l =
    (length l.list ≡ length l.initial.list) × (length l.out ≡ length l.initial.out) × Waits l.out l.piece
    × ((s : List ℕ) → Gives s [] l.content l.initial.out l.initial.piece → (given : List ℕ) × Gives s given l.content l.out l.piece)

abbrev pub decreases-loop-piece : goal.decreases-loop-piece
decreases-loop-piece l = to_give l.content l.piece
