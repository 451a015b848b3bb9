-- What a need and the end of a listing leave.
pub mod Filing
