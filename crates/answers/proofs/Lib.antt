-- What the proofs of the functions share, and what callers may use.
pub mod Lengths
pub mod Digits
pub mod RefusedLines
