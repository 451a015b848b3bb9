-- What is done with the bytes of a course file as they come.
pub mod Feeding
