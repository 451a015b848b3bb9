-- The laws on cards that the crates of the program share.
pub mod Taking
pub mod Phases
