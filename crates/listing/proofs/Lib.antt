-- The laws that only this crate needs.
pub mod Parts
