-- The laws on a line and the order of frames.
pub mod Turns
