-- Document 01 in its own words. This is all that a reader must believe; the laws about it are proved in proofs/.
pub mod Limits
pub mod Refusals
pub mod Ranges
pub mod Paths
pub mod Listing
pub mod Order
pub mod Layout
pub mod Bits
pub mod Index
pub mod Questions
pub mod Outcomes
pub mod Told
pub mod Lent
