pub mod Action
pub mod Test
pub mod Table
pub mod Closure
pub mod Passing
pub mod Columns
