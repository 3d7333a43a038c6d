-- Laws that the proofs of `mapping`, and of the crates above it, cite.
pub mod Signs
pub mod Refusals
pub mod CourseSums
pub mod CellLaws
pub mod SizeLaws
pub mod PartLaws
pub mod CallLaws
