-- What the proofs of the functions share, and what the program prints.
pub mod Betweens
pub mod Served
