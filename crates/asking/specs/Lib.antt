-- What the questions of a course file ask for, and what a question leaves.
pub mod Asking
