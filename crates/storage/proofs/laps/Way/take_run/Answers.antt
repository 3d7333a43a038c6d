-- `take_run` meets its contract.
use mathlib.Core.Path.{◌≡◌, refl, ◌∙◌}
use native.Mathlib.Omega.{arith}
use Rattle.storage.specs.Copying.{copied_run}
use Rattle.storage.proofs.CopyRuns.{Cut, taken-cut, at_room, read-room, write-room, takes, next-within}
use Rattle.storage.proofs.laps.Way.take_run.Goals as goal
use Rattle.storage.proofs.laps.Way.take_run.Goals.{After-taken_of-taken, After-next_run, then-this-le-FEW, else-this-le-FEW}

-- what is taken of the run
cut : (g : _) (c : After-taken_of-taken g) → Cut c.args.self.layout.size c.args.r c.taken_of-taken.result
cut g c = rw c.taken_of-taken.ensures (taken-cut c.requires.ready _ c.requires.alone)

pub copy_few-requires : goal.copy_few-requires
copy_few-requires g c =
    let k = cut g (goal.at.copy_few-requires g c).After-taken_of-taken in (
      rw c.places-read.ensures.read (read-room c.requires.ready k c.args.self.loading),
      rw c.places-read.ensures.written (write-room c.requires.ready k c.args.self.loading),
    )

pub copy_run-requires : goal.copy_run-requires
copy_run-requires g c =
    let k = cut g (goal.at.copy_run-requires g c).After-taken_of-taken in (
      rw c.places-read.ensures.read (read-room c.requires.ready k c.args.self.loading),
      rw c.places-read.ensures.written (write-room c.requires.ready k c.args.self.loading),
    )

pub overflow_cast-row : goal.overflow_cast-row
overflow_cast-row g c =
    omega (arith, at_room c.requires.ready (cut g (goal.at.overflow_cast-row g c).After-taken_of-taken), c.requires.ready.sized.size-high)

pub next_run-requires : goal.next_run-requires
next_run-requires g c = next-within c.requires.ready (cut g (goal.at.next_run-requires g c).After-taken_of-taken)

-- the words are copied, one by one or by a call
words : (g : _) (c : After-next_run g) → c.if-this-le-FEW.to ≡ copied_run c.places-read.result.0 c.places-read.result.1 c.taken_of-taken.result c.args.from.now c.args.to.now
words g c = elim c.if-this-le-FEW.branch [ then-this-le-FEW w ↦ w.to-is ∙ w.copy_few.ensures | else-this-le-FEW w ↦ w.to-is ∙ w.copy_run.ensures ]

pub returns : goal.returns
returns g c =
    rw c.next_run.ensures
    (takes c.requires.ready (cut g (goal.at.returns g c).After-taken_of-taken) c.args.self.loading _ _ refl
    (rw (c.places-read.ensures.read, c.places-read.ensures.written) at (words g (goal.at.returns g c).After-next_run)))
