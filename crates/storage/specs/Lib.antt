-- What the contracts of `storage` cite beside the model.
pub mod Pacing
pub mod Copying
pub mod Answers
