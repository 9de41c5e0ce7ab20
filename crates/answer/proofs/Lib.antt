pub mod Put
pub mod Told
