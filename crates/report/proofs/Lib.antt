pub mod Lines
pub mod Number
pub mod Worked
