-- What the contracts of `sheet` cite beside the model: how the bytes are read.
pub mod Reading
pub mod Numbers
pub mod Parts
pub mod Contents
pub mod Answers
pub mod Cases
pub mod Promises
