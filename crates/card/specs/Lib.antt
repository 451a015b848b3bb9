-- What is printed for a course file.
pub mod Files
