pub mod Ending
pub mod Script
pub mod Words
