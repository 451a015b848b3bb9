-- The laws on needs and on the end of a listing.
pub mod Needing
pub mod Ends
