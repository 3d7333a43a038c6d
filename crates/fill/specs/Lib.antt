-- The definitions that the contracts of `fill` cite.
pub mod SectionMoves
pub mod Starting
pub mod Long
pub mod Ways
pub mod Ready
pub mod RunFills
pub mod Answers
