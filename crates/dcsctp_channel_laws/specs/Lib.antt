pub mod Lives
pub mod Names
pub mod Handovers
