pub mod Tail
pub mod Form
pub mod Count
pub mod Worked
