-- The definitions that the contracts of `grid_fill` cite.
pub mod Entries
pub mod Steps
pub mod Rows
pub mod Turns
pub mod Plans
pub mod Ready
pub mod Answers
