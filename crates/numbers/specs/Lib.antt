-- The definitions that the contracts of `numbers` cite.
pub mod Search
pub mod Gcd
pub mod FloorSum
pub mod FirstHit
pub mod Words
pub mod Multiples
