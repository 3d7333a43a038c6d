-- Laws that several proofs of `walk` cite.
pub mod MoveLaws
pub mod RunLaws
-- constant moves
pub mod BurstLaws
pub mod ByteRuns
-- moves that are learnt
pub mod LearnLaws
pub mod SpreadLaws
pub mod LearnRuns
pub mod LearnBytes
pub mod OneEntry
-- walks that repeat, and entries stored over others
pub mod PlaceLaws
pub mod StepLaws
pub mod RepeatLaws
pub mod WholePeriods
pub mod LevelLaws
pub mod StoreLaws
pub mod CopyLaws
pub mod PartFills
pub mod PeriodFills
