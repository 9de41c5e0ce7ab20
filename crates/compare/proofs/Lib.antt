pub mod Phase
pub mod Related
pub mod States
pub mod Once
pub mod Mapped
