-- Laws that the proofs of the C functions share.
pub mod AnswerSizes
pub mod GridAnswerSizes
pub mod ParameterLaws
