-- What the proofs of the functions share, and what callers may use.
pub mod Operators
pub mod WithBit
pub mod Ranks
pub mod Halves
pub mod Searches
