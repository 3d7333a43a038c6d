-- `copy_few` meets its contract. The invariant: j words are copied.
use Prim.Native.Nat.{ℕ, ◌+◌}
use mathlib.Core.Path.{refl, ap}
use mathlib.Core.List.{List}
use native.Mathlib.Numerals.{add-one}
use lib.ListN.{get_or, set}
use Rattle.model.specs.Storages.{copied}
use Rattle.storage.proofs.words.copy_few.Goals as goal

pub loop-j-init : goal.loop-j-init
unfolding copied
loop-j-init c = refl

pub loop-j-preserved : goal.loop-j-preserved
unfolding copied
loop-j-preserved c =
    rw (add-one c.loop-j.j)
    (ap (λ (x : List ℕ). set x (c.args.start + c.loop-j.j) (get_or c.args.from.now (c.args.at + c.loop-j.j) 0)) c.loop-j.invariant)
