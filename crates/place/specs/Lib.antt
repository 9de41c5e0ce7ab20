pub mod Place
pub mod Page
