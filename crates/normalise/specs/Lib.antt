pub mod Normalise
