pub mod Sending
pub mod Directions
pub mod Cuts
pub mod Asked
pub mod Reports
pub mod InTurn
