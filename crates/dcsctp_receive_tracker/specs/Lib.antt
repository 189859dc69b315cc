pub mod Acknowledging
pub mod Received
pub mod TrackerFields
