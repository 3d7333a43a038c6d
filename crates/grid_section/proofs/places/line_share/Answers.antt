-- `line_share` meets its contract: the processor is passed on as the number it is.
use mathlib.Core.Path.{◌≡◌, ◌∙◌}
use native.Mathlib.Omega.{arith}
use lib.IntN.{pos}
use mir.Syntax.{w64}
use mir.Val.{to_z}
use mir.ValLaws.{to_z-of_z}
use Rattle.numbers.proofs.Signed.{small-fits}
use Rattle.model.specs.Mappings.{dealing_with}
use Rattle.model.specs.Ownership.{nat}
use Rattle.mapping.specs.Parts.{part_in}
use Rattle.section.specs.Shares.{share_in}
use Rattle.grid_section.proofs.places.line_share.Goals as goal
use Rattle.grid_section.proofs.places.line_share.Goals.{Start}

read : (c : Start) → to_z w64 c.args.processor ≡ pos c.args.processor
read c = to_z-of_z w64 (pos c.args.processor) (small-fits w64 _ (omega (arith, c.requires.2, c.requires.0.sized.processors-high)))

pub returns : goal.returns
unfolding nat
returns c =
    let d = dealing_with c.args.x.dealing c.args.sizes.now in
    c.share_of.ensures ∙ (λ i. share_in c.args.x.section (nat (read (goal.at.returns c).Start i)) (part_in d (nat (read (goal.at.returns c).Start i))))
