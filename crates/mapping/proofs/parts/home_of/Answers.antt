-- `home_of` meets its contract.
use mathlib.Core.Path.{◌≡◌, sym, ap, ◌∙◌}
use Prim.Native.Nat.{ℕ}
use mathlib.Core.List.{List}
use Rattle.model.specs.declared.Layout.{Layout}
use Rattle.model.specs.declared.Dealing.{Dealing}
use Rattle.model.specs.Mappings.{dealing_with}
use Rattle.model.specs.Ownership.{owner_of, rank}
use Rattle.mapping.specs.Parts.{owner_for}
use Rattle.mapping.proofs.parts.home_of.Goals as goal

-- the owner by the dealing that was told
owner-told : (l : Layout) (bytes : List ℕ) {e d : Dealing} → e ≡ d
    → owner_for l (dealing_with d bytes) ≡ owner_for l (dealing_with e bytes)
owner-told l bytes e = sym (ap (λ (d : Dealing). owner_for l (dealing_with d bytes)) e)

pub returns-in-Cyclic : goal.returns-in-Cyclic
unfolding owner_of
returns-in-Cyclic c =
    let o = owner-told c.args.l c.args.sizes.now c.in-Cyclic.is in
    (c.home_in_blocks.ensures.0 ∙ (λ j. o j c.args.i.0), c.home_in_blocks.ensures.1 ∙ (λ j. rank (o j) c.args.i.0))
