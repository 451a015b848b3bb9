-- What callers may use.
pub mod Frames
pub mod FrameLines
