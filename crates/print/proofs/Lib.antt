-- The laws behind the print.
pub mod PutLaws
pub mod LineLaws
pub mod ListedLaws
pub mod AheadLaws
pub mod WentLaws
pub mod PartLaws
pub mod PieceLaws
pub mod PrintsLaws
pub mod GivingLaws
