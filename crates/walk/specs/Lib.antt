-- The definitions that the contracts of `walk` cite.
pub mod Moving
pub mod Driving
pub mod Bursts
pub mod Learning
pub mod Spreading
pub mod Repeating
pub mod Copying
