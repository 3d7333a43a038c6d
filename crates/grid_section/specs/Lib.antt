-- The definitions that the contracts of `grid_section` cite.
pub mod Lines
pub mod Shares
pub mod Answers
