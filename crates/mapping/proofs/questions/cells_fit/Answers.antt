-- `cells_fit` meets its contract: each return rewrites by the answers on the way to it.
use Rattle.std.proofs.Common.{rules}
use mathlib.Core.Path.{◌≡◌, sym, ap, ◌∙◌}
use mathlib.Core.Bool.{false}
use lib.IntN.{ℤ, pos, ◌+ℤ◌, ◌-ℤ◌, ◌*ℤ◌}
use lib.Signed.{lt_z}
use mir.Syntax.{w64}
use mir.ValLaws.{to_z-of_z}
use Rattle.numbers.proofs.Signed.{back, holds-le, fails-le}
use Rattle.model.specs.Ownership.{cell_under, last_index}
use Rattle.model.specs.Questions.{cells_fit}
use Rattle.mapping.proofs.questions.cells_fit.Goals as goal
use Rattle.mapping.proofs.questions.cells_fit.Goals.{After-cell_under, After-last_of, Else-m-lt1}

pub returns-then-m-lt1 : goal.returns-then-m-lt1
unfolding cells_fit
returns-then-m-lt1 c = rw (rw (to_z-of_z w64 c.args.m.size (search rules)) at c.if-m-lt1.true)

some : (c : Else-m-lt1) → lt_z c.args.m.size (pos 1) ≡ false
some c = rw (to_z-of_z w64 c.args.m.size (search rules)) at c.if-m-lt1.false

first : (c : After-cell_under) → back w64 c.cell_under.result ≡ (c.args.m.stride *ℤ c.args.m.lower +ℤ c.args.m.offset -ℤ c.args.m.origin)
first c =
    to_z-of_z w64 c.cell_under.result (record { sfits = c.cell_under.type_inv })
    ∙ (rw (to_z-of_z w64 c.args.m.lower (search rules)) at c.cell_under.ensures)

pub returns-then-cell_under-lt0 : goal.returns-then-cell_under-lt0
unfolding cells_fit cell_under
returns-then-cell_under-lt0 c =
    let at = goal.at.returns-then-cell_under-lt0 c in
    let below-0 = holds-le (c.args.m.stride *ℤ c.args.m.lower +ℤ c.args.m.offset -ℤ c.args.m.origin) (pos 0)
    (sym (ap (λ (z : ℤ). lt_z z (pos 0)) (first at.After-cell_under)) ∙ c.if-cell_under-lt0.true) in
    rw (some at.Else-m-lt1, below-0)

last-index : (c : After-last_of) → back w64 c.last_of.result ≡ c.args.m.lower +ℤ c.args.m.size -ℤ pos 1
last-index c =
    let l = to_z-of_z w64 c.args.m.lower (search rules) in
    let n = to_z-of_z w64 c.args.m.size (search rules) in
    to_z-of_z w64 c.last_of.result (record { sfits = c.last_of.type_inv }) ∙ c.last_of.ensures ∙ (λ i. l i +ℤ n i -ℤ pos 1)

pub returns : goal.returns
unfolding cells_fit cell_under last_index
returns c =
    let last = to_z-of_z w64 c.cell_under-2.result (record { sfits = c.cell_under-2.type_inv })
    ∙ (rw (last-index (goal.at.returns c).After-last_of) at c.cell_under-2.ensures) in
    let t = to_z-of_z w64 c.args.m.cells (search rules) in
    let from-0 = fails-le (c.args.m.stride *ℤ c.args.m.lower +ℤ c.args.m.offset -ℤ c.args.m.origin) (pos 0)
    (sym (ap (λ (z : ℤ). lt_z z (pos 0)) (first (goal.at.returns c).After-cell_under)) ∙ c.if-cell_under-lt0.false) in
    rw (some (goal.at.returns c).Else-m-lt1, from-0) (λ i. lt_z (last i) (t i))
