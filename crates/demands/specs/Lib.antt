pub mod Input
pub mod Answer
pub mod Call
