pub mod Append
pub mod Spelling
pub mod Codes
pub mod Known
pub mod Step
pub mod Exists
pub mod Stack
pub mod Kept
