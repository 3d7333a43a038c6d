-- Whether the numbers of an answer fit the fields that the C header declares. They are signed there, `int32_t` and in
-- `hpf_steps` `int64_t`, so that the highest bit stays free. Definitions only.
use Rattle.std.specs.Prelude.{ℕ, ◌^◌, ◌<◌, ℤ, nat_abs}
use Rattle.model.specs.Calls.{OwnershipAnswer, GoingBackAnswer, LocalCountAnswer, StepReport, SectionStepsAnswer, PlaceAnswer}
use Rattle.model.specs.declared.three.Three.{Three}
use Rattle.model.specs.GridCalls.{GridBackAnswer, GridStepsAnswer}
use Rattle.model.specs.Transfers.{TransferAnswer}
use Rattle.model.specs.Checkpoints.{CopyAnswer}
use Rattle.fill.specs.Answers.{FillReport}

-- a number from 0 on in a field of 32 bits, and in one of 64
abbrev pub In32 : ℕ → Type 0
In32 n = n < 2 ^ 31

abbrev pub In64 : ℕ → Type 0
In64 n = n < 2 ^ 63

-- a declared index or a column move, which may be negative
abbrev pub Signed32 : ℤ → Type 0
Signed32 z = nat_abs z < 2 ^ 31

abbrev pub OwnedFits : OwnershipAnswer → Type 0
OwnedFits a = In32 a.refusal × In32 a.processor × In32 a.address

abbrev pub FoundFits : GoingBackAnswer → Type 0
FoundFits a = In32 a.refusal × Signed32 a.index

abbrev pub CountedFits : LocalCountAnswer → Type 0
CountedFits a = In32 a.refusal × In32 a.elements

abbrev pub StepFits : StepReport → Type 0
StepFits r = In64 r.cells × In64 r.courses × Signed32 r.column

abbrev pub StepsFit : SectionStepsAnswer → Type 0
StepsFit a = In64 a.refusal × In64 a.count × In64 a.steps × StepFits a.first × StepFits a.second

abbrev pub PlacedFits : PlaceAnswer → Type 0
PlacedFits a = In32 a.refusal × In32 a.place

abbrev pub FilledFits : FillReport → Type 0
FilledFits a = In32 a.refusal × In32 a.entries × In32 a.tries × In32 a.place

abbrev pub TransferredFits : TransferAnswer → Type 0
TransferredFits a = In32 a.refusal × In32 a.entries × In32 a.needed

abbrev pub CopiedFits : CopyAnswer → Type 0
CopiedFits a = In32 a.refusal × In32 a.needed

abbrev pub IndicesFit : Three ℤ → Type 0
IndicesFit j = Signed32 j.first × Signed32 j.second × Signed32 j.third

abbrev pub GridFoundFits : GridBackAnswer → Type 0
GridFoundFits a = In32 a.refusal × IndicesFit a.indices

abbrev pub GridStepsFit : GridStepsAnswer → Type 0
GridStepsFit a =
    In64 a.refusal × In64 a.count × StepsFit a.dimensions.first × StepsFit a.dimensions.second
    × StepsFit a.dimensions.third
