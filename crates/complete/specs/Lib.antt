pub mod Vector
pub mod Descent
