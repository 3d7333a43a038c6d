-- `bounds_fit` meets its contract: each return rewrites by the answers on the way to it.
use Rattle.std.proofs.Common.{rules}
use mathlib.Core.Path.{◌≡◌, sym, ap, ◌∙◌}
use mathlib.Core.Bool.{true}
use lib.IntN.{pos, ◌+ℤ◌, ◌-ℤ◌}
use mir.Syntax.{w64}
use mir.ValLaws.{to_z-of_z}
use Rattle.model.specs.Ownership.{last_index, last_cell}
use Rattle.model.specs.Questions.{between, most, least, bounds_fit}
use Rattle.model.proofs.QuestionLaws.{size_is}
use Rattle.mapping.proofs.Signs.{answered}
use Rattle.mapping.proofs.questions.bounds_fit.Goals as goal
use Rattle.mapping.proofs.questions.bounds_fit.Goals.{After-within-3, Else-not-within, Else-not-within-2, Else-not-within-3}

pub returns-then-not-within : goal.returns-then-not-within
unfolding bounds_fit
returns-then-not-within c = rw (answered (between least most) c.args.m.lower (search rules) c.within.ensures c.if-not-within.true)

lower-holds : (c : Else-not-within) → between least most c.args.m.lower ≡ true
lower-holds c = answered (between least most) c.args.m.lower (search rules) c.within.ensures c.if-not-within.false

pub returns-then-not-within-2 : goal.returns-then-not-within-2
unfolding bounds_fit
returns-then-not-within-2 c =
    let at = goal.at.returns-then-not-within-2 c in
    rw (
      lower-holds at.Else-not-within,
      answered (between least most) c.args.m.origin (search rules) c.within-2.ensures c.if-not-within-2.true,
    )

origin-holds : (c : Else-not-within-2) → between least most c.args.m.origin ≡ true
origin-holds c = answered (between least most) c.args.m.origin (search rules) c.within-2.ensures c.if-not-within-2.false

pub last_of-requires : goal.last_of-requires
last_of-requires c =
    rw (to_z-of_z w64 c.args.m.origin (search rules), to_z-of_z w64 c.args.m.cells (search rules))
    (size_is c.args.m.origin (origin-holds (goal.at.last_of-requires c).Else-not-within-2), c.requires.0)

-- the answer about the template's last cell
last-asked : (c : After-within-3) → c.within-3.result ≡ between least most (c.args.m.origin +ℤ c.args.m.cells -ℤ pos 1)
last-asked c =
    let o = to_z-of_z w64 c.args.m.origin (search rules) in
    let t = to_z-of_z w64 c.args.m.cells (search rules) in
    let r = to_z-of_z w64 c.last_of.result (record { sfits = c.last_of.type_inv }) in
    c.within-3.ensures ∙ ap (between least most) (r ∙ c.last_of.ensures ∙ (λ i. o i +ℤ t i -ℤ pos 1))

pub returns-then-not-within-3 : goal.returns-then-not-within-3
unfolding bounds_fit last_cell
returns-then-not-within-3 c =
    let at = goal.at.returns-then-not-within-3 c in
    rw (
      lower-holds at.Else-not-within,
      origin-holds at.Else-not-within-2,
      sym (last-asked at.After-within-3) ∙ c.if-not-within-3.true,
    )

cell_holds : (c : Else-not-within-3) → between least most (c.args.m.origin +ℤ c.args.m.cells -ℤ pos 1) ≡ true
cell_holds c =
    sym ((let o = to_z-of_z w64 c.args.m.origin (search rules) in
    let t = to_z-of_z w64 c.args.m.cells (search rules) in
    let r = to_z-of_z w64 c.last_of.result (record { sfits = c.last_of.type_inv }) in
    c.within-3.ensures ∙ ap (between least most) (r ∙ c.last_of.ensures ∙ (λ i. o i +ℤ t i -ℤ pos 1)))) ∙ c.if-not-within-3.false

pub returns-then-m-lt1 : goal.returns-then-m-lt1
unfolding bounds_fit last_cell
returns-then-m-lt1 c =
    let at = goal.at.returns-then-m-lt1 c in
    rw (
      lower-holds at.Else-not-within,
      origin-holds at.Else-not-within-2,
      cell_holds at.Else-not-within-3,
      rw (to_z-of_z w64 c.args.m.size (search rules)) at c.if-m-lt1.true,
    )

pub last_of-requires-2 : goal.last_of-requires-2
last_of-requires-2 c =
    rw (to_z-of_z w64 c.args.m.lower (search rules), to_z-of_z w64 c.args.m.size (search rules))
    (size_is c.args.m.lower (lower-holds (goal.at.last_of-requires-2 c).Else-not-within), c.requires.1)

pub returns : goal.returns
unfolding bounds_fit last_cell last_index
returns c =
    let l = to_z-of_z w64 c.args.m.lower (search rules) in
    let n = to_z-of_z w64 c.args.m.size (search rules) in
    let r = to_z-of_z w64 c.last_of-2.result (record { sfits = c.last_of-2.type_inv }) in
    rw (lower-holds (goal.at.returns c).Else-not-within, origin-holds (goal.at.returns c).Else-not-within-2, cell_holds (goal.at.returns c).Else-not-within-3, rw n at c.if-m-lt1.false)
    (c.within-4.ensures ∙ ap (between least most) (r ∙ c.last_of-2.ensures ∙ (λ i. l i +ℤ n i -ℤ pos 1)))
