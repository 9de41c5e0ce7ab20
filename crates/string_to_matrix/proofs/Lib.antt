pub mod Small
pub mod Gates
pub mod Reduced
pub mod Ending
pub mod High
pub mod Squeezed
pub mod Once
