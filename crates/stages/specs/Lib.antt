-- The table of the stages of a course.
pub mod Stages
