pub mod Limits
pub mod Sizes
pub mod Within
pub mod Judged
