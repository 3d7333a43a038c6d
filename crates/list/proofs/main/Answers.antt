-- `main` lends enough room, and ends: what is still to be given falls by each piece. The loop keeps that the piece in `out` is
-- the next of the print that was begun.
use Rattle.std.proofs.Common.{◌∙◌, ◌++◌, take}
use Rattle.list.proofs.main.Goals as goal

pub loop-piece-preserved : goal.loop-piece-preserved
loop-piece-preserved c = (
  c.go_on-piece.auto.list ∙ c.loop-piece.invariant.0,
  c.go_on-piece.auto.out ∙ c.loop-piece.invariant.1,
  c.go_on-piece.ensures.waits.0,
  λ s g. let h = c.loop-piece.invariant.3 s g in (h.0 ++ take c.loop-piece.piece.bytes c.loop-piece.out, c.go_on-piece.ensures.by_index s h.0 h.1),
)
