pub mod Channels
pub mod Gives
