pub mod Taking
pub mod Beginning
pub mod Tails
pub mod Rests
pub mod Answer
pub mod Once
