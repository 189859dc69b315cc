pub mod sending
pub mod receiving
pub mod directions
pub mod order
pub mod epochs
