-- The laws on the frames that open a course.
pub mod Opening
