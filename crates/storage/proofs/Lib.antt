-- The laws by which save and load meet their contracts.
pub mod PaceLaws
pub mod RowLaws
pub mod CopiedRuns
pub mod CopyRuns
pub mod LapLaws
pub mod DealtWords
pub mod CallAnswers
