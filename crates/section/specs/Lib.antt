-- What the contracts of `section` cite beside the model.
pub mod Strides
pub mod Places
pub mod Falls
pub mod Going
pub mod Elements
pub mod Shares
pub mod Answers
