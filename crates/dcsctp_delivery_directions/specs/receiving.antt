pub mod Rows
pub mod Ready
pub mod Tracked
pub mod Received
pub mod Arriving
pub mod Clear
