pub mod Layer
pub mod Rows
pub mod Shown
pub mod Weights
