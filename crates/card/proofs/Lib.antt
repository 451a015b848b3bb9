-- The laws on lines and files that the proofs of the functions share, and the theorems on course files.
pub mod Files
pub mod Runs
pub mod LineCases
pub mod Reached
pub mod LineRefusals
pub mod QuestionRefusals
pub mod FileRefusals
pub mod PrintedCase
