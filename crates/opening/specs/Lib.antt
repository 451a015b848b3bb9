-- What the frames that open a course leave.
pub mod Opening
