-- The order of frames, and how a card and the lent areas hold what was read.
pub mod Card
pub mod Held
