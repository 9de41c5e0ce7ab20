pub mod Accept
pub mod Column
