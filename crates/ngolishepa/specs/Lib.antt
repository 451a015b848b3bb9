-- What the contracts of this crate say beside the definitions of `rules`.
pub mod Told
pub mod Version
