-- What a turn of the program settles.
pub mod Turns
