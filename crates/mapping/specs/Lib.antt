-- What the contracts of `mapping` cite beside the model.
pub mod Answers
pub mod Bounds
pub mod Counts
pub mod Parts
