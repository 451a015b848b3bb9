-- What the contracts of this crate say beside the definitions of `rules`.
pub mod Asked
pub mod Lent
