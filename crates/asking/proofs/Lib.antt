-- The laws on the questions of a course file.
pub mod Answers
