pub mod Answering
pub mod Arriving
pub mod Hearing
pub mod Keeping
pub mod Looking
pub mod Loops
pub mod Placing
pub mod Weighing
