pub mod Promise
pub mod Descends
pub mod Letters
