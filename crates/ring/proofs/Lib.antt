pub mod Formal
pub mod Ring
pub mod Root2
pub mod Bounds
pub mod Halving
pub mod Divided
pub mod Halves
pub mod Equal
