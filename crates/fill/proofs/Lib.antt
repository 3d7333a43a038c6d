-- Laws that several proofs of `fill` cite.
-- a section's moves, and that its walk is driven by them
pub mod ShapeLaws
pub mod PaceLaws
pub mod ColumnClasses
pub mod AddressMoves
pub mod DriveLaws
pub mod RunFillLaws
pub mod DealtFills
pub mod SmallMoves
pub mod EvenLaws
-- a fill's questions, its plan, its start, its chunks, and its answers
pub mod ReadyLaws
pub mod PlanLaws
pub mod StartLaws
pub mod ChunkLaws
pub mod LongLaws
pub mod FillAnswers
