pub mod Word
pub mod Promise
