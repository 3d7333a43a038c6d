-- `walk_by` meets its contract.
use mathlib.Core.Path.{◌≡◌, refl}
use Rattle.model.specs.declared.Steps.{Steps}
use Rattle.section.specs.declared.questions.Strided.{Strided}
use Rattle.section.specs.declared.shares.Extent.{Extent}
use Rattle.section.specs.declared.shares.Extent.TheVariants.{Blocks, Run}
use Rattle.section.specs.Strides.{steps_in}
use Rattle.section.specs.Shares.{LeadOn}
use Rattle.transfer.proofs.PairLaws.{fitted}
use Rattle.transfer.proofs.walk.walk_by.Goals as goal

lead-on : (w : Strided) (e : Extent) {steps : Steps} → steps ≡ steps_in w → LeadOn w e steps
lead-on w Blocks s = s
lead-on w (Run r) s = tt

pub steps_of-requires : goal.steps_of-requires
steps_of-requires c = (fitted c.args.walked c.requires.first).bounded

pub first_of-requires : goal.first_of-requires
first_of-requires c = fitted c.args.walked c.requires.first

pub returns : goal.returns
returns c = (record { meets = c.requires; steps = lead-on c.args.walked.section c.args.walked.extent c.steps_of.ensures; first = c.first_of.ensures }, refl, refl)
