-- What the proofs of the functions share, and what callers may use.
pub mod Covering
pub mod Reaching
pub mod Knowing
