pub mod Tails
pub mod Unique
pub mod Normal
pub mod Taken
