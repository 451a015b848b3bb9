-- What the proofs of the functions share.
pub mod Asking
pub mod StepSpans
pub mod Lent
