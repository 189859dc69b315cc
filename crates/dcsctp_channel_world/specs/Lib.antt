pub mod Seen
pub mod Shown
pub mod Steps
pub mod Fitting
pub mod Promises
