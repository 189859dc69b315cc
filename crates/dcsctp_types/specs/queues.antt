pub mod Congestion
pub mod Messages
pub mod Progress
pub mod SendStreams
