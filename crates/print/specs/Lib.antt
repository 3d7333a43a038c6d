-- What the contracts of `print` cite beside the model: the text that `list` prints.
pub mod Texts
pub mod Ahead
pub mod Turns
pub mod Pieces
pub mod Giving
