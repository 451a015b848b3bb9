-- What a line of a course file says.
pub mod Lines
