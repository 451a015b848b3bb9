-- The laws that the table rests on.
pub mod Lasts
pub mod PairReads
