pub mod Descends
pub mod Taken
pub mod Phases
pub mod Spelt
pub mod Route
