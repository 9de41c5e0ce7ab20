pub mod List
pub mod Position
