-- The laws that the proofs of this crate share.
pub mod RowsWritten
pub mod UnitPairs
pub mod Reaches
pub mod Lows
