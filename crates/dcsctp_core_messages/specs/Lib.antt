pub mod Resetting
pub mod Sending
pub mod Taking
