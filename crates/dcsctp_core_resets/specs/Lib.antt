pub mod Repeating
pub mod Requests
pub mod Resets
