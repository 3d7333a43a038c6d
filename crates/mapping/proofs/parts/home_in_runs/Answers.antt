-- `home_in_runs` meets its contract.
use Prim.Native.Nat.{ℕ, suc, ◌-◌, ◌%◌, ◌≤◌, ◌<◌}
use mathlib.Core.List.{List}
use mathlib.Core.Path.{◌≡◌, refl, sym, ap, ◌∙◌}
use native.Mathlib.Omega.{arith}
use Rattle.numbers.specs.Search.{sum}
use Rattle.numbers.specs.Words.{words_of}
use lib.ListN.{length}
use Rattle.model.specs.declared.Layout.{Layout}
use Rattle.model.specs.Mappings.{Dealing, gen_block, sizes_of}
use Rattle.model.specs.Ownership.{cell_of, run_start, run_owner, run_sizes}
use Rattle.model.proofs.RunOwners.{owner-run}
use Rattle.model.proofs.OneRun.{OneRun, run-rank}
use Rattle.mapping.specs.Parts.{index_from, owner_for}
use Rattle.mapping.proofs.SizeLaws.{Fitting, fitting}
use Rattle.mapping.proofs.PartLaws.{in-template, inside, one-run}
use Rattle.mapping.proofs.parts.home_in_runs.Goals as goal
use Rattle.mapping.proofs.parts.home_in_runs.Goals.{After-index_from-first, After-owner_in-owner, Start}

-- the list passed question 16, and the element's cell lies in a run
listed : (c : Start) → Fitting c.args.l.cells c.args.l.processors c.args.sizes.now
listed c = fitting c.args.l.cells c.args.l.processors c.args.sizes.now c.requires.0

covered : (c : Start) → c.args.l.cells ≤ sum (run_sizes (sizes_of c.args.sizes.now))
covered c = rw (listed c).words (listed c).covers

in-a-run : (c : Start) → cell_of c.args.l c.args.i.0 < sum (words_of 4 c.args.sizes.now)
in-a-run c = rw (listed c).words at (inside c.args.l c.requires.1 (sizes_of c.args.sizes.now) 0 (covered c) c.args.i.0 c.requires.2)

pub owner_in-owner-requires : goal.owner_in-owner-requires
owner_in-owner-requires c =
    let at = goal.at.owner_in-owner-requires c in
    (rw c.cell_of-c.ensures (in-a-run at.Start), omega (arith, (listed at.Start).long, c.requires.1.processors-high))

-- the owner's run has the cell
abbrev runs : (c : After-owner_in-owner) → List ℕ
runs c =
    words_of 4 c.args.sizes.now

abbrev cell : (c : After-owner_in-owner) → ℕ
cell c =
    cell_of c.args.l c.args.i.0

owner-is : (c : After-owner_in-owner) → c.owner_in-owner.result.processor ≡ run_owner (runs c) (cell c)
owner-is c =
    c.owner_in-owner.ensures.processor_value ∙ ap (run_owner (runs c)) c.cell_of-c.ensures

starts : (c : After-owner_in-owner) → c.owner_in-owner.result.start.0 ≡ run_start (runs c) (run_owner (runs c) (cell c))
starts c =
    c.owner_in-owner.ensures.start_value ∙ ap (run_start (runs c)) (owner-is c)

-- the elements of the owner
home : (c : After-owner_in-owner) → let l : Layout = c.args.l in
    let d : Dealing = gen_block (sizes_of c.args.sizes.now) (length c.args.sizes.now % 4) in
    let rs : List ℕ = run_sizes (sizes_of c.args.sizes.now) in
    let q : ℕ = owner_for l d c.args.i.0 in
    OneRun (owner_for l d) l.size q (index_from l (run_start rs q)) (index_from l (run_start rs (suc q)))
home c =
    one-run c.args.l c.requires.1 (sizes_of c.args.sizes.now) (length c.args.sizes.now % 4) (let l = fitting c.args.l.cells c.args.l.processors c.args.sizes.now c.requires.0 in rw l.words l.covers) _

pub index_from-first-requires : goal.index_from-first-requires
index_from-first-requires c =
    let at = goal.at.index_from-first-requires c in
    let o = at.After-owner_in-owner in
    let run = owner-run (runs o) (cell o) (in-a-run at.Start) in
    (c.requires.1, omega (arith, starts o, run.from, in-template c.args.l c.requires.1 c.args.i.0 c.requires.2, c.requires.1.cells-high))

-- the first of them
first-is : (c : After-index_from-first) → let rs : List ℕ = run_sizes (sizes_of c.args.sizes.now) in
    c.index_from-first.result.0 ≡ index_from c.args.l (run_start rs (run_owner rs (cell_of c.args.l c.args.i.0)))
first-is c =
    let cell = cell_of c.args.l c.args.i.0 in
    let runs = words_of 4 c.args.sizes.now in
    let owner = c.owner_in-owner.ensures.processor_value ∙ ap (run_owner runs) c.cell_of-c.ensures in
    let fits = fitting c.args.l.cells c.args.l.processors c.args.sizes.now c.requires.0 in
    c.index_from-first.ensures
    ∙ ap (index_from c.args.l) (c.owner_in-owner.ensures.start_value ∙ ap (run_start runs) owner)
    ∙ ap (λ (ws : List ℕ). index_from c.args.l (run_start ws (run_owner ws cell))) (sym fits.words)

pub overflow_sub-x : goal.overflow_sub-x
overflow_sub-x c = omega (arith, first-is (goal.at.overflow_sub-x c).After-index_from-first, ((home (goal.at.overflow_sub-x c).After-owner_in-owner).only c.args.i.0 c.requires.2 refl).0)

pub returns : goal.returns
returns c = (
  owner-is (goal.at.returns c).After-owner_in-owner ∙ ap (λ (ws : List ℕ). run_owner ws (cell (goal.at.returns c).After-owner_in-owner)) (sym (listed (goal.at.returns c).Start).words),
  ap (λ (n : ℕ). c.args.i.0 - n) (first-is (goal.at.returns c).After-index_from-first) ∙ sym (run-rank (home (goal.at.returns c).After-owner_in-owner) c.args.i.0 c.requires.2 refl),
)
