-- What the contracts of this crate say beside the definitions of `rules`.
pub mod Known
pub mod Places
