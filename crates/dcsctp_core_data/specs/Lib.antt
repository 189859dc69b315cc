pub mod Data
pub mod Sacks
pub mod Shutdown
