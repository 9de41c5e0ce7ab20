pub mod Digit
pub mod Frame
pub mod Calls
pub mod Parts
