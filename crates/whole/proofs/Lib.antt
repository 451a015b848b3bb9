-- The laws that this crate's proofs and its callers cite.
pub mod Lengths
pub mod SpareBits
pub mod Vectors
pub mod Judging
