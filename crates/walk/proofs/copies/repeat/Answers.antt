-- `repeat` meets its contract. The invariant: the entries before j are written.
use native.Mathlib.Omega.{arith}
use Rattle.walk.proofs.CopyLaws.{extends-none, extends-more}
use Rattle.walk.proofs.copies.repeat.Goals as goal

pub loop-j-init : goal.loop-j-init
loop-j-init c = extends-none _ _ _

pub loop-j-preserved : goal.loop-j-preserved
loop-j-preserved c =
    rw (c.put_entry.ensures, c.word_at-x.ensures)
    (extends-more c.requires.0 (omega arith) (omega arith) c.loop-j.invariant)
