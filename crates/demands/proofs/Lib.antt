pub mod Cases
pub mod First
pub mod Second
pub mod Third
pub mod Lazy
