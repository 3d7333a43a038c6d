-- The structs that the C functions return, as the paper's numbers.
pub mod Fields
pub mod GridFields
-- and how large these are
pub mod Sizes
