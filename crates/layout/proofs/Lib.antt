-- The laws that this crate's proofs and its callers cite.
pub mod Rows
