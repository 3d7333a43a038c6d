-- `ask_dealing` meets its contract: each return rewrites by the answers on the way to it.
use Rattle.std.proofs.Common.{rules}
use mathlib.Core.Path.{◌≡◌, sym, ◌∙◌}
use mathlib.Core.Bool.{true}
use mathlib.Core.List.{[]}
use lib.IntN.{pos}
use Rattle.model.specs.Mappings.{dealing_with}
use Rattle.model.specs.Questions.{between, most, least, most_stride, block_fits, first_no}
use Rattle.mapping.proofs.Signs.{answered}
use Rattle.mapping.proofs.questions.ask_dealing.Goals as goal
use Rattle.mapping.proofs.questions.ask_dealing.Goals.{Else-not-block_fits, Else-not-within, Else-not-within-2, Else-not-within-3}

pub returns-then-not-within : goal.returns-then-not-within
unfolding first_no
returns-then-not-within c = rw (answered (between (pos 1) most) c.args.m.cells (search rules) c.within.ensures c.if-not-within.true)

cells-hold : (c : Else-not-within) → between (pos 1) most c.args.m.cells ≡ true
cells-hold c = answered (between (pos 1) most) c.args.m.cells (search rules) c.within.ensures c.if-not-within.false

pub returns-then-not-within-2 : goal.returns-then-not-within-2
unfolding first_no
returns-then-not-within-2 c =
    let at = goal.at.returns-then-not-within-2 c in
    rw (
      cells-hold at.Else-not-within,
      answered (between (pos 1) (pos 1024)) c.args.m.processors (search rules) c.within-2.ensures c.if-not-within-2.true,
    )

processors-hold : (c : Else-not-within-2) → between (pos 1) (pos 1024) c.args.m.processors ≡ true
processors-hold c = answered (between (pos 1) (pos 1024)) c.args.m.processors (search rules) c.within-2.ensures c.if-not-within-2.false

pub returns-then-not-block_fits : goal.returns-then-not-block_fits
unfolding first_no
returns-then-not-block_fits c =
    let at = goal.at.returns-then-not-block_fits c in
    rw (
      cells-hold at.Else-not-within,
      processors-hold at.Else-not-within-2,
      sym c.block_fits.ensures ∙ c.if-not-block_fits.true,
    )

block-holds : (c : Else-not-block_fits) → block_fits (dealing_with c.args.m.dealing []) ≡ true
block-holds c = sym c.block_fits.ensures ∙ c.if-not-block_fits.false

pub returns-then-not-listed : goal.returns-then-not-listed
unfolding first_no
returns-then-not-listed c =
    let at = goal.at.returns-then-not-listed c in
    rw (
      cells-hold at.Else-not-within,
      processors-hold at.Else-not-within-2,
      block-holds at.Else-not-block_fits,
      c.if-not-listed.true,
    )

pub returns-then-not-within-3 : goal.returns-then-not-within-3
unfolding first_no
returns-then-not-within-3 c =
    rw (
      cells-hold (goal.at.returns-then-not-within-3 c).Else-not-within,
      processors-hold (goal.at.returns-then-not-within-3 c).Else-not-within-2,
      block-holds (goal.at.returns-then-not-within-3 c).Else-not-block_fits,
      c.if-not-listed.false,
      answered (between (pos 1) (pos most_stride)) c.args.m.stride (search rules) c.within-3.ensures c.if-not-within-3.true,
    )

stride_holds : (c : Else-not-within-3) → between (pos 1) (pos most_stride) c.args.m.stride ≡ true
stride_holds c = answered (between (pos 1) (pos most_stride)) c.args.m.stride (search rules) c.within-3.ensures c.if-not-within-3.false

pub returns-then-not-within-4 : goal.returns-then-not-within-4
unfolding first_no
returns-then-not-within-4 c =
    rw (
      cells-hold (goal.at.returns-then-not-within-4 c).Else-not-within,
      processors-hold (goal.at.returns-then-not-within-4 c).Else-not-within-2,
      block-holds (goal.at.returns-then-not-within-4 c).Else-not-block_fits,
      c.if-not-listed.false,
      stride_holds (goal.at.returns-then-not-within-4 c).Else-not-within-3,
      answered (between least most) c.args.m.offset (search rules) c.within-4.ensures c.if-not-within-4.true,
    )

pub returns : goal.returns
unfolding first_no
returns c =
    rw (
      cells-hold (goal.at.returns c).Else-not-within,
      processors-hold (goal.at.returns c).Else-not-within-2,
      block-holds (goal.at.returns c).Else-not-block_fits,
      c.if-not-listed.false,
      stride_holds (goal.at.returns c).Else-not-within-3,
      answered (between least most) c.args.m.offset (search rules) c.within-4.ensures c.if-not-within-4.false,
    )
