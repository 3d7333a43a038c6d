-- What follows from the definitions.
-- the starred cases, those of our own for GEN_BLOCK and for grids, and demand 2
pub mod StarredHold
pub mod GenBlockRowsHold
pub mod GridRowsHold
pub mod AddressLaws
pub mod PairLaws
pub mod ProductLaws
pub mod HeldLaws
pub mod SizedLaws
pub mod TripletLaws
pub mod BoundLaws
pub mod QuestionLaws
pub mod AcceptedLaws
pub mod CaseLaws
pub mod CasesHold
pub mod RunOwners
pub mod Demand2Holds
pub mod AnsweredLaws
pub mod AnswerLaws
pub mod RefusalLaws
-- sections, their steps, and the walk by them
pub mod SectionLaws
pub mod Rests
pub mod CellOwners
pub mod Turns
pub mod StepSearch
pub mod StepEnds
pub mod StepLaws
pub mod WalkLaws
pub mod SmallestHold
pub mod WalkTheorem
pub mod RunWalks
pub mod AxisLaws
pub mod Walking
pub mod StepSizes
pub mod PeriodLaws
-- fills one after another, and demand 3
pub mod FillCalls
pub mod Fronts
pub mod InTurnLaws
pub mod KindLaws
pub mod NeighbourLaws
pub mod SectionFills
pub mod OnceLaws
pub mod FillsExist
pub mod FillLoopLaws
-- rows
pub mod LeastLaws
pub mod RowLaws
pub mod RowFills
pub mod AlikeLaws
pub mod RowNeighbours
-- fills of bytes, and demand 3
pub mod ByteStores
pub mod ByteFillsHold
pub mod FillBounds
pub mod Demand3Holds
-- grids
pub mod GridAccepted
pub mod GridWalks
pub mod GridFillCalls
pub mod GridDemand2Holds
pub mod GridFills
pub mod GridDemand3Holds
pub mod GridAnswers
pub mod GridSizes
-- checkpoints, and runs
pub mod StorageLaws
pub mod OneRun
pub mod DirectAddresses
pub mod CopyLaws
pub mod CheckpointsHold
-- every call
pub mod Demand1Holds
pub mod GridDemand1Holds
pub mod RankOneQuestions
pub mod RankOneHolds
-- declared bounds
pub mod LinedLaws
pub mod ZeroBounds
mod ShiftedSections
pub mod ShiftedHolds
pub mod Document01Holds
-- transfers
pub mod TransferLaws
-- all of it
pub mod PromisesHold
