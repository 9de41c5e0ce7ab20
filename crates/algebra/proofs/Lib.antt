pub mod Ring
pub mod Whole
pub mod Solver
pub mod Hom
pub mod Parity
pub mod Cancellation
