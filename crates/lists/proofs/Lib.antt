-- The laws of the spans.
pub mod Units
