pub mod Acks
pub mod Canonical
pub mod ReadsBack
mod StandardFacts
