pub mod Kept
pub mod Taken
pub mod Answering
pub mod Blocks
