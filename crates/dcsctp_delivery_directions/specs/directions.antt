pub mod Directions
pub mod Marking
pub mod Requests
pub mod Calm
pub mod Forwards
pub mod Losing
pub mod Reached
