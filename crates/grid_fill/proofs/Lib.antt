-- Laws that several proofs of `grid_fill` cite.
-- entries of a list of bytes, and fills along any walk
pub mod BaseFills
-- one dimension, rows, and turns
pub mod ShareFills
pub mod RowPlaces
pub mod RowTurns
pub mod WholeRows
pub mod TurnLaws
pub mod RowLists
pub mod CopyLaws
pub mod FillingLaws
-- a fill's plan, its questions, and its answers
pub mod PlanLaws
pub mod ReadyLaws
pub mod FillAnswers
