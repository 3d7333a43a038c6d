-- `fill_by_classes` meets its contract.
use Rattle.walk.specs.Learning.{class_of}
use Rattle.walk.proofs.LearnBytes.{EvenBytes}
use Rattle.walk.proofs.classes.fill_by_classes.Given as goal

abbrev pub invariant-loop-n : goal.invariant-loop-n
invariant-loop-n l = EvenBytes l.f l.initial.s l.initial.list (class_of l.f.elements l.f.moves) l.classes l.list l.s l.n
