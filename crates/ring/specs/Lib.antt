pub mod Element
pub mod Bounds
pub mod Divided
pub mod Number
pub mod Real
