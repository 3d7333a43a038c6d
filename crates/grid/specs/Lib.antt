-- The definitions that the contracts of `grid` cite.
pub mod Ranks
pub mod Dimensions
pub mod Answers
