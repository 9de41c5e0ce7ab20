pub mod Limits
pub mod Refusal
pub mod Written
