pub mod Turn
pub mod Norm
pub mod Lower
pub mod Syllable
pub mod Axis
pub mod Unit
pub mod Diagonal
pub mod Complete
