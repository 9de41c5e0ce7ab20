pub mod Promise
pub mod Part
