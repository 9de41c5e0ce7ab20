pub mod Matrix
pub mod Letter
pub mod Text
pub mod Identities
