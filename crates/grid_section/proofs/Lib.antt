-- Laws that several proofs of `grid_section`, and of the crates above it, cite.
pub mod LineLaws
pub mod LineAnswers
pub mod ShareLaws
pub mod CallAnswers
