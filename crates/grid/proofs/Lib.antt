-- Laws that several proofs of `grid` cite.
pub mod ThreeLaws
pub mod DimensionLaws
pub mod ElementLaws
pub mod AskLaws
pub mod CallLaws
