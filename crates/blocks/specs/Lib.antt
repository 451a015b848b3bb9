-- Which bytes wait in a block, before and after a read.
pub mod Blocks
