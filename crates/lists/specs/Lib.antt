pub mod List
pub mod Found
