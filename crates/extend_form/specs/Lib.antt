pub mod Spelling
pub mod Extend
