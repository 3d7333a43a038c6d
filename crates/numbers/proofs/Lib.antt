-- The laws of the definitions of `numbers`, for the proofs of this crate and of those that use it.
pub mod Division
pub mod SearchLaws
pub mod TallyLaws
pub mod RangeSums
pub mod GcdLaws
pub mod SumLaws
pub mod Depth
pub mod HitLaws
pub mod Tests
pub mod Signed
pub mod WordLaws
pub mod MultipleLaws
