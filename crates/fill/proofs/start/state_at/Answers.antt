-- `state_at` meets its contract.
use mathlib.Core.Path.{ap, ◌∙◌}
use Rattle.model.specs.Ownership.{column_of}
use Rattle.fill.specs.SectionMoves.{on_way}
use Rattle.fill.proofs.StartLaws.{state-past, state-on}
use Rattle.fill.proofs.start.state_at.Goals as goal

pub returns-then-w-t : goal.returns-then-w-t
returns-then-w-t c = state-past c.args.s c.requires c.if-w-t.true

pub returns : goal.returns
returns c =
    state-on c.args.s c.requires _ _ c.if-w-t.false
    (c.column_of.ensures ∙ ap (λ z. on_way c.args.s.section.upward c.args.s.section.layout.block (column_of c.args.s.section.layout z)) c.cell_at.ensures) c.address_at.ensures
