pub mod Rest
pub mod Line
pub mod Calls
