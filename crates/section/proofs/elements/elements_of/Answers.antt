-- `elements_of` meets its contract: the section's array has as many elements.
use mathlib.Core.Path.{sym, ap, ◌∙◌}
use native.Mathlib.Nat.{le_refl, pos_of_ne-zero}
use Rattle.numbers.specs.Search.{tally}
use Rattle.numbers.proofs.SearchLaws.{tally-none}
use Rattle.model.specs.declared.Layout.{Layout}
use Rattle.model.specs.Ownership.{owner_of, held}
use Rattle.section.specs.Strides.{owned_at}
use Rattle.section.specs.Elements.{line_of}
use Rattle.section.proofs.ElementLaws.{line-sized, line-held}
use Rattle.section.proofs.elements.elements_of.Goals as goal

pub returns-then-w-eq0 : goal.returns-then-w-eq0
returns-then-w-eq0 c =
    let owned = owned_at c.args.w c.args.q in
    sym (ap (tally owned) c.if-w-eq0.true ∙ tally-none owned)

pub held_below-requires : goal.held_below-requires
unfolding line_of
held_below-requires c =
    let some = pos_of_ne-zero c.if-w-eq0.false in
    let sized = line-sized c.args.w c.requires.0 some in
    rw c.line_of.ensures (record { dealt = record { sized = sized; processor = c.requires.1 }; index = le_refl _ })

pub returns : goal.returns
returns c =
    c.held_below.ensures
    ∙ ap (λ (l : Layout). held (owner_of l) c.args.w.count c.args.q) c.line_of.ensures
    ∙ line-held c.args.w c.requires.0 (pos_of_ne-zero c.if-w-eq0.false) c.args.q
