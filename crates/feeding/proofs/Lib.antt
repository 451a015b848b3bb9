-- What the shell's proofs use of a card that is fed, and that a file may come in any blocks.
pub mod Lines
pub mod Feeds
pub mod Blocks
pub mod LineFeeds
