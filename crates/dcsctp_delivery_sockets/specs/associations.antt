pub mod Reads
pub mod Ends
pub mod Answered
pub mod InOrder
pub mod Laws
pub mod Split
