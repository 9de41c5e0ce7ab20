pub mod Rotated
pub mod Parity
pub mod Surd
pub mod Trace
pub mod Leftmost
pub mod Entries
pub mod Lemma
