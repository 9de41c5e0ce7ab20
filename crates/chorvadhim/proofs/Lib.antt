-- What the proofs of several calls use, and what the answer words tell.
pub mod Within
pub mod Legible
pub mod Answered
pub mod Equal
pub mod Tells
pub mod Once
