-- What the proofs of the questions use.
pub mod Granted
