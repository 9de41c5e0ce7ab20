pub mod Count
pub mod Spelled
pub mod Every
pub mod Grammar
pub mod Prefix
pub mod Follow
pub mod Letters
pub mod Worked
