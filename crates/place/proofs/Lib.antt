pub mod Place
pub mod Written
