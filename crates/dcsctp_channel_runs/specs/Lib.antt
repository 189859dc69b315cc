pub mod Acts
pub mod HandedOn
pub mod Opened
pub mod Prefixes
pub mod Runs
