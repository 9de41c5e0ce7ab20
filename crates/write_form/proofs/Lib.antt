pub mod Codes
pub mod Put
