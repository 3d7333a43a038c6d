-- What the contracts of `transfer` cite beside the model.
pub mod Pairs
pub mod Walks
pub mod Answers
