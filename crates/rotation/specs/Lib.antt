pub mod Rotation
pub mod Vector
